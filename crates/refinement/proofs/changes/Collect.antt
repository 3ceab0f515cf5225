-- The end of a leaf collection: the survivors of a running task are at new addresses, and each reference to one is
-- updated.
use Rattle.refinement.proofs.Common.{◌≡◌, ℕ, ◌+◌, arith, true, false, Option, Some, None, List, ◌∷◌, slice_get, ◌⊎◌, inl, inr, refl, ap, sym, subst, ◌∙◌, is_some, cases_eq, both_ways, same_Some, got_in, Addr, Located, Name, Object, Task, MachineState, object_at, names_from, task_names, is_waiting, is_joined, is_on_path, parents, path_itself, runs_idle, Heap, Ledger, heap_of, or_fresh, SoundLedger, Spares, survivors_at, collecting, RefField, own, Rests, ChangesHeap, own_live, leaf_alone, holder_live, Belongings, Memory, In, object_name, objects, objects_of_chunks, sources, Lies, copied_object, rewritten, rewritten_belongings, IsModelObject, FramesAreRead, HoldsRead, TaskIsRead, LiesWithOwner, BelongingsStand, IsSource, MemoryStands, Moves, Collects}
use Rattle.refinement.proofs.changes.Same.{own_same, path_same, store_same, source_same, rests_before, worker_same}
use Rattle.refinement.proofs.objects.Carry.{Led, task_kept, same_holding, all_led, frames_led, all_rewritten}
use Rattle.refinement.proofs.objects.Members.{in_chunk}
use Rattle.refinement.proofs.changes.Alone.{belongings_own}
use Rattle.refinement.proofs.changes.Sweep.{refers, is_kept, Live, live_task, live_ref}
use Rattle.refinement.proofs.objects.LaidOut.{rewritten_words}
use Rattle.refinement.proofs.objects.Mapped.{from_mapped, lies_mapped, belongings_mapped}
use Rattle.refinement.proofs.changes.Shown.{collection_shown, noted_mutable}
use Rattle.refinement.proofs.changes.Giving.{gives_kept}

survivors_is : (o : Option Heap) → survivors_at o ≡ (or_fresh o).survivors
survivors_is None = refl
survivors_is (Some h) = refl

collecting_is : (o : Option Heap) → is_some (or_fresh o).begun ≡ true → collecting o ≡ true
collecting_is None e = e
collecting_is (Some h) e = e

module _ (v v' : Memory) (l l' : Ledger) (t : ℕ) (x : Task) (f : Addr → Addr) (S : SoundLedger l) (V : MemoryStands v l) (B : Collects l t x)
    (L : ChangesHeap l l' t) (C : Moves v v' l l' t (heap_of l t).survivors f) where
  abbrev survivors : List Name
  survivors = (heap_of l t).survivors

  spares : Spares l.machine.tasks l.machine.store l.heaps t survivors
  spares = subst (Spares l.machine.tasks l.machine.store l.heaps t) (survivors_is (slice_get l.heaps t)) (S.collects t (collecting_is (slice_get l.heaps t) B.begun))

  idle : is_waiting (slice_get l.machine.tasks t) ≡ false
  idle = runs_idle x B.task B.runs

  -- a survivor of t is at its updated address
  moved : (n : Name) (a : Addr) → own l n ≡ t → Live l t S survivors spares n → LiesWithOwner v l n a → LiesWithOwner v' l' n (f a)
  moved n a e g p =
      let q : Lies (v.belongings t).chunks n a = subst (λ u. Lies (v.belongings u).chunks n a) e (p.here (subst (Rests l) (sym e) B.rests)) in
      let i : In (objects v' t) (copied_object f q.0) = C.copied q.0 q.1 (subst (In survivors) (sym q.2.name) (g e)) in
      let q' : Lies (v'.belongings t).chunks n (f a) = (copied_object f q.0, i, record { name = q.2.name; at = ap f q.2.at }) in
      let k = in_chunk (v'.belongings t).chunks (copied_object f q.0) i in
      let at : (f a).chunk ≡ k.0.number = ap (λ (b : Addr). (f b).chunk) (sym q.2.at) ∙ C.belongings.inside k.0 (copied_object f q.0) k.1 k.2 in
      let e' : own l' n ≡ t = own_same l l' L.machine n ∙ e in
      record {
        chunk = ap v'.owner at ∙ (C.belongings.owned k.0 k.1 ∙ ap Some (sym e'));
        here = λ r. subst (λ u. Lies (v'.belongings u).chunks n (f a)) (sym e') q';
      }

  -- all else is where it was, and its address isn't updated
  still : (n : Name) (a : Addr) → (own l n ≡ t → ⊥) → LiesWithOwner v l n a → LiesWithOwner v' l' n a × (f a ≡ a)
  still n a ne p = (
    record {
      chunk = C.owners a.chunk (own l n) ne p.chunk ∙ ap Some (sym (own_same l l' L.machine n));
      here = λ r.
          let q : Lies (v.belongings (own l n)).chunks n a = p.here (rests_before l l' t L (own l n) (subst (Rests l') (own_same l l' L.machine n) r)) in
          subst (λ u. Lies (v'.belongings u).chunks n a) (sym (own_same l l' L.machine n))
          (subst (λ (h : Belongings). Lies h.chunks n a) (sym (C.others (own l n) ne)) (lies_mapped (rewritten f (sources v t)) (λ o. refl) (λ o. refl) (v.belongings (own l n)).chunks n a q));
    },
    C.same a (own l n) ne p.chunk,
  )

  led_place : (n : Name) (a : Addr) → Live l t S survivors spares n → LiesWithOwner v l n a → LiesWithOwner v' l' n (f a)
  led_place n a g p = elim (cases_eq (own l n) t) [
    | inl e ↦ moved n a e g p
    | inr ne ↦ let q = still n a ne p in subst (LiesWithOwner v' l' n) (sym q.1) q.0
  ]

  belongings : (u : ℕ) → Rests l' u → BelongingsStand v' l' u
  belongings u r = elim (cases_eq u t) [
    | inl e ↦ subst (BelongingsStand v' l') (sym e) C.belongings
    | inr ne ↦ belongings_mapped (rewritten f (sources v t)) (λ o. refl) (λ o. refl) v v' l l' u (C.others u ne) (λ k. C.owners k u ne) (L.others u ne) (ap (λ (m : MachineState). slice_get m.store u) L.machine) (ap (λ (m : MachineState). is_joined (slice_get m.tasks u)) L.machine) (rewritten_words f (sources v t)) (V.belongings u (rests_before l l' t L u r))
  ]

  -- what is in another task's heap, before the rewriting
  was : (u : ℕ) (o : Located) → (u ≡ t → ⊥) → In (objects v' u) o → (q : Located) × In (objects v u) q × (rewritten f (sources v t) q ≡ o)
  was u o ne i = from_mapped (rewritten f (sources v t)) (λ o. refl) (λ o. refl) (v.belongings u).chunks o (subst (λ (h : Belongings). In (objects_of_chunks h.chunks) o) (C.others u ne) i)

  -- a field of another's object: what it names is no object of t, or it is remembered
  field : (u : ℕ) (o : Located) (y : Object) → (u ≡ t → ⊥) → Rests l u → In (objects v u) o → object_at l.machine.store (object_name o) ≡ Some y → (j : ℕ) (n : Name) → slice_get y.refs j ≡ Some (Some n) → Led (LiesWithOwner v l) (LiesWithOwner v' l') f (sources v t) o.at j n
  field u o y ne r i is j n at =
      elim (cases_eq (own l n) t) [
        | inr other ↦ inr (λ a p. still n a other p)
        | inl e ↦ inl (
          elim (V.remembered u o y j n r i is at) [
            | inl h ↦
                let mine : own l (object_name o) ≡ u = belongings_own v l S u (V.belongings u r) o i in
                let live : is_joined (slice_get l.machine.tasks u) ≡ false = ap (λ z. is_joined (slice_get l.machine.tasks z)) (sym mine) ∙ own_live l S (object_name o) in
                absurd (ne (sym (leaf_alone l S t u idle live (ap (λ z. is_on_path l.machine.tasks z u) (sym e) ∙ h))))
            | inr s ↦ subst (λ z. In (sources v z) (record { object = o.at; field = j })) e s
          ],
          λ a p. moved n a e (live_ref l t S survivors spares (object_name o) n y is (is_kept v l u (V.belongings u r) o i) (λ e'. absurd (ne (sym (belongings_own v l S u (V.belongings u r) o i) ∙ e'))) (got_in y.refs j (Some n) at)) p,
        )
      ]

  content : (u : ℕ) (o : Located) → Rests l' u → In (objects v' u) o → (y : Object) × (object_at l'.machine.store (object_name o) ≡ Some y) × IsModelObject (LiesWithOwner v' l') o y
  content u o r i = elim (cases_eq u t) [
    | inl e ↦
        let q = C.only o (subst (λ z. In (objects v' z) o) e i) in
        let c = V.contents t q.0 B.rests q.1 in
        subst (λ (z : Located). (y : Object) × (object_at l'.machine.store (object_name z) ≡ Some y) × IsModelObject (LiesWithOwner v' l') z y) (sym q.3) (
          c.0,
          store_same l l' L.machine (object_name q.0) ∙ c.1,
          record {
            mutable = c.2.mutable;
            ints = c.2.ints;
            refs = all_led (LiesWithOwner v l) (LiesWithOwner v' l') f q.0.refs c.0.refs (λ n j a. led_place n a (live_ref l t S survivors spares (object_name q.0) n c.0 c.1 (is_kept v l t (V.belongings t B.rests) q.0 q.1) (λ e. q.2) j)) c.2.refs;
          },
        )
    | inr ne ↦
        let q = was u o ne i in
        let c = V.contents u q.0 (rests_before l l' t L u r) q.1 in
        subst (λ (z : Located). (y : Object) × (object_at l'.machine.store (object_name z) ≡ Some y) × IsModelObject (LiesWithOwner v' l') z y) q.2 (
          c.0,
          store_same l l' L.machine (object_name q.0) ∙ c.1,
          record {
            mutable = c.2.mutable;
            ints = c.2.ints;
            refs = all_rewritten (LiesWithOwner v l) (LiesWithOwner v' l') f (sources v t) q.0.at 0 q.0.refs c.0.refs (λ j n at. subst (λ z. Led (LiesWithOwner v l) (LiesWithOwner v' l') f (sources v t) q.0.at z n) (let z : j ≡ 0 + j = omega arith in z) (field u q.0 c.0 ne (rests_before l l' t L u r) q.1 c.1 j n at)) c.2.refs;
          },
        )
  ]

  own_task : TaskIsRead (LiesWithOwner v l) (v.belongings t) x → ((n : Name) → In (task_names x) n → (a : Addr) → LiesWithOwner v l n a → LiesWithOwner v' l' n (f a)) → TaskIsRead (LiesWithOwner v' l') (v'.belongings t) x
  own_task k g =
      subst (HoldsRead (LiesWithOwner v' l') (v'.belongings t) x) (sym B.runs)
      (subst (λ fs. FramesAreRead (LiesWithOwner v' l') fs (x.top ∷ x.below)) (sym C.frames)
      (frames_led (LiesWithOwner v l) (LiesWithOwner v' l') f (v.belongings t).frames (x.top ∷ x.below)
      (λ n i. g n (subst (λ s. In (names_from s (x.top ∷ x.below)) n) (sym B.runs) i))
      (subst (HoldsRead (LiesWithOwner v l) (v.belongings t) x) B.runs k)))

  task : (u : ℕ) (y : Task) → Rests l' u → slice_get l'.machine.tasks u ≡ Some y → TaskIsRead (LiesWithOwner v' l') (v'.belongings u) y
  task u y r is =
      let is' : slice_get l.machine.tasks u ≡ Some y = sym (ap (λ (m : MachineState). slice_get m.tasks u) L.machine) ∙ is in
      elim (cases_eq u t) [
        | inl e ↦
            let same : x ≡ y = same_Some x y (sym B.task ∙ (ap (slice_get l.machine.tasks) (sym e) ∙ is')) in
            subst (λ (z : Task). TaskIsRead (LiesWithOwner v' l') (v'.belongings u) z) same
            (subst (λ z. TaskIsRead (LiesWithOwner v' l') (v'.belongings z) x) (sym e)
            (own_task (V.tasks t x B.rests B.task) (λ n i a. led_place n a (live_task l t S survivors spares t x n B.task i))))
        | inr ne ↦
            subst (λ (h : Belongings). TaskIsRead (LiesWithOwner v' l') h y) (sym (C.others u ne))
            (same_holding (LiesWithOwner v' l') (v.belongings u) (rewritten_belongings f (sources v t) (v.belongings u)) y refl refl
            (task_kept (LiesWithOwner v l) (LiesWithOwner v' l') (v.belongings u) y
            (λ n i a p. (still n a (λ e. ne (sym (leaf_alone l S t u idle (holder_live l S u y n is' i) (ap (λ z. is_on_path l.machine.tasks z u) (sym e) ∙ (S.apart.of_task u y n is' i).1)))) p).0)
            (V.tasks u y (rests_before l l' t L u r) is')))
      ]

  up : (n : Name) → is_on_path l.machine.tasks (own l n) t ≡ true → is_on_path l'.machine.tasks (own l' n) t ≡ true
  up n h = ap (λ k. is_on_path l'.machine.tasks k t) (own_same l l' L.machine n) ∙ (path_same l l' L.machine (own l n) t ∙ h)

  -- a running task's objects refer up or inside
  own_up : (o : Located) (y : Object) (n : Name) → own l (object_name o) ≡ t → object_at l.machine.store (object_name o) ≡ Some y → In y.refs (Some n) → is_on_path l.machine.tasks (own l n) t ≡ true
  own_up o y n e is i = elim (S.apart.of_object (object_name o) n (refers l.machine.store (object_name o) n y is i)).2 [
    | inl h ↦
        let q : t ≡ own l n = leaf_alone l S t (own l n) idle (own_live l S n) (ap (λ z. is_on_path l.machine.tasks z (own l n)) (sym e) ∙ h) in
        ap (λ z. is_on_path l.machine.tasks z t) (sym q) ∙ path_itself (parents l.machine.tasks) S.fork_join.tree.low t
    | inr h ↦ ap (is_on_path l.machine.tasks (own l n)) (sym e) ∙ h
  ]

  remember : (u : ℕ) (o : Located) (y : Object) (i : ℕ) (n : Name) → Rests l' u → In (objects v' u) o → object_at l'.machine.store (object_name o) ≡ Some y → slice_get y.refs i ≡ Some (Some n)
      → (is_on_path l'.machine.tasks (own l' n) u ≡ true) ⊎ In (sources v' (own l' n)) (record { object = o.at; field = i })
  remember u o y i n r j is at =
      let is' : object_at l.machine.store (object_name o) ≡ Some y = sym (store_same l l' L.machine (object_name o)) ∙ is in
      elim (cases_eq u t) [
        | inl e ↦
            let q = C.only o (subst (λ z. In (objects v' z) o) e j) in
            let mine : own l (object_name o) ≡ t = ap (λ (z : Located). own l (object_name z)) q.3 ∙ belongings_own v l S t (V.belongings t B.rests) q.0 q.1 in
            inl (subst (λ z. is_on_path l'.machine.tasks (own l' n) z ≡ true) (sym e) (up n (own_up o y n mine is' (got_in y.refs i (Some n) at))))
        | inr ne ↦
            let q = was u o ne j in
            let is'' : object_at l.machine.store (object_name q.0) ≡ Some y = ap (λ (z : Located). object_at l.machine.store (object_name z)) q.2 ∙ is' in
            elim (V.remembered u q.0 y i n (rests_before l l' t L u r) q.1 is'' at) [
              | inl h ↦ inl (ap (λ k. is_on_path l'.machine.tasks k u) (own_same l l' L.machine n) ∙ (path_same l l' L.machine (own l n) u ∙ h))
              | inr s ↦
                  inr (subst (λ (z : Located). In (sources v' (own l' n)) (record { object = z.at; field = i })) q.2
                  (subst (λ k. In (sources v' k) (record { object = q.0.at; field = i })) (sym (own_same l l' L.machine n))
                  (subst (λ ss. In ss (record { object = q.0.at; field = i })) (sym (C.sources (own l n))) s)))
            ]
      ]

  source : (u : ℕ) (s : RefField) → In (sources v' u) s → IsSource v' l' u s
  source u s i =
      let k = V.sources u s (subst (λ ss. In ss s) (C.sources u) i) in
      let ne : own l k.name ≡ t → ⊥ = λ e. both_ways (is_waiting (slice_get l.machine.tasks t)) idle (ap (λ z. is_waiting (slice_get l.machine.tasks z)) (sym e) ∙ k.waits) in
      source_same l l' L.machine v v' u s k (still k.name s.object ne k.place).0 (worker_same l l' t L (own l k.name))
      (subst (λ (h : Heap). In h.snapshot k.name) (sym (L.others (own l k.name) ne)) k.snapshot)

  view_same : (z : ℕ) → (v'.belongings z).view ≡ (v.belongings z).view
  view_same z = elim (cases_eq z t) [ inl e ↦ ap (λ k. (v'.belongings k).view) e ∙ (C.view ∙ ap (λ k. (v.belongings k).view) (sym e)) | inr ne ↦ ap (λ (h : Belongings). h.view) (C.others z ne) ]

  pub collected : MemoryStands v' l'
  collected = record { made = λ k u e. ap (λ (m : MachineState). is_some (slice_get m.tasks u)) L.machine ∙ V.made k u (C.owned k u e); belongings = belongings; contents = content; tasks = task; remembered = remember; sources = source; gives = λ z u r j up ne w ru. gives_kept v v' u z (view_same z) (view_same u) (λ k o. C.owned k u o) (V.gives z u (rests_before l l' t L z r) (sym (ap (λ (m : MachineState). is_joined (slice_get m.tasks z)) L.machine) ∙ j) (sym (path_same l l' L.machine u z) ∙ up) ne (sym (ap (λ (m : MachineState). is_waiting (slice_get m.tasks u)) L.machine) ∙ w) (rests_before l l' t L u ru)); views = λ z r j. collection_shown v v' l l' t (heap_of l t).survivors f S V.views C idle (λ u o s i q k e. noted_mutable v l t u o s V i q k e) view_same (λ u y. path_same l l' L.machine u y) (rests_before l l' t L) z (rests_before l l' t L z r) (sym (ap (λ (m : MachineState). is_joined (slice_get m.tasks z)) L.machine) ∙ j) }
