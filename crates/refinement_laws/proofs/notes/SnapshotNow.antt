-- What the registers and the roots of a waiting heap reach now, with what was kept since its task forked, is exactly
-- its snapshot.
use Rattle.refinement_laws.proofs.Common.{◌≡◌, ◌⊎◌, ◌↔◌, ℕ, true, Some, List, ◌∷◌, slice_get, inl, inr, refl, ap, sym, subst, ◌∙◌, same_Some, got_in, in_got, reached_more, reached_start, reached_within, Addr, Located, Name, TaskStatus, Running, Waiting, Ended, Joined, Task, names_from, registers, is_waiting, waits, Ledger, heap_at, heap_of, InHeaps, SomeHeapHas, SoundLedger, heap_names, snapshot_at, CallFrame, Rests, own, In, Memory, object_name, objects, FramesAreRead, HoldsRead, LiesWithOwner, MemoryStands, IsReachedAt, IsRememberedRoot, LeadsAt, StartsAt, Since, kept, belongings_own, lies_in, object_held, root_owner, frame_name, name_at, is_kept, refers, snapshot_is, IsReachedNow, StartsNow}

module _ (v : Memory) (l : Ledger) (t : ℕ) (x : Task) (S : SoundLedger l) (V : MemoryStands v l) (is : slice_get l.machine.tasks t ≡ Some x) (wait : is_waiting (slice_get l.machine.tasks t) ≡ true) (rests : Rests l t) (H : Since v l t) where
  -- FROM THE FORK ON
  still_start : (a : Addr) → StartsAt H.belongings H.roots a → StartsNow v l t a
  still_start a s =
      let q = H.there s.0 s.1.0 in
      (q.0, (q.1, q.2 ∙ s.1.1), still_start_by_cases s.2)
    where
      still_start_by_cases : ((f : CallFrame) × In H.belongings.frames f × In f.refs (Some a)) ⊎ In H.roots a → ((f : CallFrame) × In (v.belongings t).frames f × In f.refs (Some a)) ⊎ (IsRememberedRoot v l t a ⊎ In (kept v t) a)
      still_start_by_cases (inl f) = let g = H.registers f.0 f.1 in inl (g.0, g.1, subst (λ rs. In rs (Some a)) (sym g.2) f.2)
      still_start_by_cases (inr r) = inr (H.rooted a r)

  still_leads : (b a : Addr) → IsReachedNow v l t b → LeadsAt H.belongings b a → IsReachedNow v l t a
  still_leads b a r d =
      let o = H.there d.0 d.2.0 in
      let q = H.there d.1 d.4.0 in
      let at : q.0.at ≡ a = q.2 ∙ d.4.1 in
      let mine : v.owner a.chunk ≡ Some t = ap (λ (z : Addr). v.owner z.chunk) (sym at) ∙ lies_in v l V t q.0 rests q.1 in
      elim (H.overwritten d.0 o.0 a d.2.0 o.1 o.2 d.3 mine) [
        | inl i ↦ reached_more (StartsNow v l t) (LeadsAt (v.belongings t)) b a r (o.0, q.0, (o.1, o.2 ∙ d.2.1), i, (q.1, at))
        | inr k ↦ reached_start (StartsNow v l t) (LeadsAt (v.belongings t)) a (q.0, (q.1, at), inr (inr k))
      ]

  from_then : (a : Addr) → IsReachedAt H.belongings H.roots a → IsReachedNow v l t a
  from_then a w =
      reached_within (StartsAt H.belongings H.roots) (LeadsAt H.belongings) (IsReachedNow v l t) (λ a s. reached_start (StartsNow v l t) (LeadsAt (v.belongings t)) a (still_start a s)) still_leads a w

  -- AND NO FURTHER
  abbrev snapshot : List Name
  snapshot = (heap_of l t).snapshot

  abbrev Live : Name → Type 0
  Live n = SomeHeapHas l.heaps n × (InHeaps l.heaps t n → In (snapshot_at (slice_get l.heaps t)) n)

  abbrev Kept : Addr → Type 0
  Kept a = (q : Located) → In (objects v t) q → q.at ≡ a → In snapshot (object_name q)

  -- the object at the address of a live name is in the snapshot
  live_here : (n : Name) (a : Addr) → Live n → LiesWithOwner v l n a → Kept a
  live_here n a k p q i e =
      let mine : own l n ≡ t = same_Some (own l n) t (sym p.chunk ∙ (ap (λ (b : Addr). v.owner b.chunk) (sym e) ∙ lies_in v l V t q rests i)) in
      let o = p.here (subst (Rests l) (sym mine) rests) in
      let same : q ≡ o.0 = (V.belongings t rests).once q o.0 i (subst (λ z. In (objects v z) o.0) mine o.1) (e ∙ sym o.2.at) in
      let name : n ≡ object_name q = sym o.2.name ∙ ap object_name (sym same) in
      let held : In (heap_names (heap_at l t)) (object_name q) = object_held (v.belongings t).chunks (heap_of l t) (V.belongings t rests).names q i in
      subst (λ ns. In ns (object_name q)) (snapshot_is (slice_get l.heaps t)) (subst (In (snapshot_at (slice_get l.heaps t))) name (k.1 (subst (InHeaps l.heaps t) (sym name) held)))

  -- a reference of an object of a live name
  leads_live : (z : ℕ) → Rests l z → (o : Located) → In (objects v z) o → Live (object_name o) → (i : ℕ) (a : Addr) → slice_get o.refs i ≡ Some (Some a) → Kept a
  leads_live z r o j k i a e =
      let c = V.contents z o r j in
      let n = name_at (LiesWithOwner v l) o.refs c.0.refs i a c.2.refs e in
      live_here n.0 a ((S.waits t wait).of_object (object_name o) n.0 k (refers l.machine.store (object_name o) n.0 c.0 c.1 (got_in c.0.refs i (Some n.0) n.1))) n.2

  -- a register of the task
  waits_holds : (st : TaskStatus) → waits st ≡ true → HoldsRead (LiesWithOwner v l) (v.belongings t) x st → FramesAreRead (LiesWithOwner v l) (v.belongings t).frames (x.top ∷ x.below)
  waits_holds Running h r = absurd cc
  waits_holds Waiting h r = r
  waits_holds (Ended k n) h r = absurd cc
  waits_holds Joined h r = absurd cc

  waits_names : (st : TaskStatus) → waits st ≡ true → (n : Name) → In (registers (x.top ∷ x.below)) n → In (names_from st (x.top ∷ x.below)) n
  waits_names Running h n i = absurd cc
  waits_names Waiting h n i = i
  waits_names (Ended k m) h n i = absurd cc
  waits_names Joined h n i = absurd cc

  waiting : waits x.status ≡ true
  waiting = ap is_waiting (sym is) ∙ wait

  register_live : (a : Addr) (f : CallFrame) → In (v.belongings t).frames f → In f.refs (Some a) → Kept a
  register_live a f i j =
      let frames = waits_holds x.status waiting (V.tasks t x rests is) in
      let n = frame_name (LiesWithOwner v l) (v.belongings t).frames (x.top ∷ x.below) f a frames i j in
      live_here n.0 a ((S.waits t wait).of_task t x n.0 is (waits_names x.status waiting n.0 n.1)) n.2

  root_live : (a : Addr) → IsRememberedRoot v l t a → Kept a
  root_live a r =
      let s = V.sources t r.source r.noted in
      let owner : own l s.name ≡ r.task = root_owner v l V t a r in
      let mine : own l (object_name r.object) ≡ r.task = belongings_own v l S r.task (V.belongings r.task r.rests) r.object r.there in
      let other : InHeaps l.heaps t (object_name r.object) → ⊥ = λ h. s.below (owner ∙ (sym mine ∙ (S.owners t (object_name r.object) h).1)) in
      leads_live r.task r.rests r.object r.there (is_kept v l r.task (V.belongings r.task r.rests) r.object r.there, λ h. absurd (other h)) r.source.field a r.holds

  kept_live : (a : Addr) → In (kept v t) a → Kept a
  kept_live a k q i e =
      let o = H.each a k in
      let same : q ≡ o.0 = (V.belongings t rests).once q o.0 i o.1 (e ∙ sym o.2) in
      subst (In snapshot) (ap object_name (sym same)) o.3

  start_live : (a : Addr) → StartsNow v l t a → Kept a
  start_live a s = elim s.2 [
    | inl f ↦ register_live a f.0 f.1 f.2
    | inr r ↦ elim r [
      | inl y ↦ root_live a y
      | inr k ↦ kept_live a k
    ]
  ]

  more_live : (b a : Addr) → Kept b → LeadsAt (v.belongings t) b a → Kept a
  more_live b a k d =
      let i = in_got d.0.refs (Some a) d.3 in
      leads_live t rests d.0 d.2.0 (is_kept v l t (V.belongings t rests) d.0 d.2.0, λ h. subst (λ ns. In ns (object_name d.0)) (sym (snapshot_is (slice_get l.heaps t))) (k d.0 d.2.0 d.2.1)) i.0 a i.1

  pub snapshot_now : (q : Located) → In (objects v t) q → IsReachedNow v l t q.at ↔ In (heap_of l t).snapshot (object_name q)
  snapshot_now q i = (
    (λ w. reached_within (StartsNow v l t) (LeadsAt (v.belongings t)) Kept start_live more_live q.at w q i refl),
    (λ n. from_then q.at ((H.snapshot q i).1 n)),
  )
