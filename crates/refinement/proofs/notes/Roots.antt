-- What the registers and the roots of a begun collection reach by addresses is what is reachable within the heap by
-- names.
use Rattle.refinement.proofs.Common.{◌≡◌, ℕ, zero, suc, ◌==◌, not, Bool, true, false, Option, Some, None, List, [], ◌∷◌, slice_get, ◌⊎◌, ◌↔◌, inl, inr, refl, ap, sym, subst, ◌∙◌, ne_eqb, and_from, and_parts, eqb-false, not-true, same_Some, in_from_contains, contains_from_in, in_append_left, in_append_right, in_append_cases, in_kept, in_from_kept, in_flat, got_in, in_got, IsWalk, Addr, Located, Name, Frame as ModelFrame, Running, Task, object_at, names_of_references, registers, refs_at, refs_of, is_waiting, is_joined, is_on_path, in_from_named, named_from_in, runs_idle, runs_live, Ledger, StartsWithin, LeadsWithin, heap_of, held, held_in, frames_of, roots_of, within, is_proper_ancestor, reached_root, reached_is_walks, SoundLedger, in_held, held_keeps, CallFrame, own, Rests, own_live, leaf_alone, Belongings, Memory, In, object_name, objects, sources, AllRead, FramesAreRead, HoldsRead, LiesWithOwner, MemoryStands, StartsAt, LeadsAt, IsReachedAt, AreRoots}
use Rattle.run_ledger.proofs.Reached.{reached_more}
use Rattle.refinement.proofs.objects.Members.{object_held, held_object, from_flat, lies_in}
use Rattle.refinement.proofs.changes.Alone.{belongings_own}
use Rattle.refinement.proofs.changes.Sweep.{refers, is_kept}

-- READ LISTS, BOTH WAYS

pub name_at : (at : Name → Addr → Type 0) (rs : List (Option Addr)) (xs : List (Option Name)) (i : ℕ) (a : Addr) → AllRead at rs xs → slice_get rs i ≡ Some (Some a) → (n : Name) × (slice_get xs i ≡ Some (Some n)) × at n a
name_at at [] [] i a h e = absurd cc
name_at at [] (x ∷ xs) i a h e = absurd h
name_at at (r ∷ rs) [] i a h e = absurd h
name_at at (None ∷ rs) (x ∷ xs) zero a h e = absurd cc
name_at at (Some b ∷ rs) (None ∷ xs) zero a h e = absurd h.0
name_at at (Some b ∷ rs) (Some n ∷ xs) zero a h e = (n, refl, subst (at n) (same_Some b a (same_Some (Some b) (Some a) e)) h.0)
name_at at (r ∷ rs) (x ∷ xs) (suc i) a h e = name_at at rs xs i a h.1 e

address_at : (at : Name → Addr → Type 0) (rs : List (Option Addr)) (xs : List (Option Name)) (i : ℕ) (n : Name) → AllRead at rs xs → slice_get xs i ≡ Some (Some n) → (a : Addr) × (slice_get rs i ≡ Some (Some a)) × at n a
address_at at [] [] i n h e = absurd cc
address_at at [] (x ∷ xs) i n h e = absurd h
address_at at (r ∷ rs) [] i n h e = absurd h
address_at at (r ∷ rs) (None ∷ xs) zero n h e = absurd cc
address_at at (None ∷ rs) (Some m ∷ xs) zero n h e = absurd h.0
address_at at (Some a ∷ rs) (Some m ∷ xs) zero n h e = (a, refl, subst (λ k. at k a) (same_Some m n (same_Some (Some m) (Some n) e)) h.0)
address_at at (r ∷ rs) (x ∷ xs) (suc i) n h e = address_at at rs xs i n h.1 e

pub frame_name : (at : Name → Addr → Type 0) (fs : List CallFrame) (xs : List ModelFrame) (f : CallFrame) (a : Addr) → FramesAreRead at fs xs → In fs f → In f.refs (Some a) → (n : Name) × In (registers xs) n × at n a
frame_name at [] [] f a h i j = absurd i
frame_name at [] (x ∷ xs) f a h i j = absurd h
frame_name at (g ∷ fs) [] f a h i j = absurd h
frame_name at (g ∷ fs) (x ∷ xs) f a h (inl e) j =
    let k = in_got g.refs (Some a) (subst (λ (z : CallFrame). In z.refs (Some a)) (sym e) j) in
    let q = name_at at g.refs x.refs k.0 a h.0.refs k.1 in
    (q.0, in_append_left (names_of_references x.refs) (registers xs) q.0 (named_from_in x.refs q.0 (got_in x.refs k.0 (Some q.0) q.1)), q.2)
frame_name at (g ∷ fs) (x ∷ xs) f a h (inr i) j = let q = frame_name at fs xs f a h.1 i j in (q.0, in_append_right (names_of_references x.refs) (registers xs) q.0 q.1, q.2)

frame_address : (at : Name → Addr → Type 0) (fs : List CallFrame) (xs : List ModelFrame) (n : Name) → FramesAreRead at fs xs → In (registers xs) n → (f : CallFrame) × (a : Addr) × In fs f × In f.refs (Some a) × at n a
frame_address at [] [] n h i = absurd i
frame_address at [] (x ∷ xs) n h i = absurd h
frame_address at (g ∷ fs) [] n h i = absurd h
frame_address at (g ∷ fs) (x ∷ xs) n h i = elim (in_append_cases (names_of_references x.refs) (registers xs) n i) [
  | inl j ↦
      let k = in_got x.refs (Some n) (in_from_named x.refs n j) in
      let q = address_at at g.refs x.refs k.0 n h.0.refs k.1 in
      (g, q.0, inl refl, got_in g.refs k.0 (Some q.0) q.1, q.2)
  | inr j ↦ let q = frame_address at fs xs n h.1 j in (q.0, q.1, inr q.2, q.3, q.4)
]

module _ (v : Memory) (l : Ledger) (t : ℕ) (x : Task) (roots : List Addr) (S : SoundLedger l) (V : MemoryStands v l) (is : slice_get l.machine.tasks t ≡ Some x) (runs : x.status ≡ Running) (rests : Rests l t)
    (at_rest : (u : ℕ) → is_waiting (slice_get l.machine.tasks u) ≡ true → Rests l u) (R : AreRoots v l t roots) where
  abbrev h : Belongings
  h = v.belongings t

  abbrev names : List Name
  names = held_in (heap_of l t)

  idle : is_waiting (slice_get l.machine.tasks t) ≡ false
  idle = runs_idle x is runs

  live : is_joined (slice_get l.machine.tasks t) ≡ false
  live = runs_live x is runs

  frames : FramesAreRead (LiesWithOwner v l) h.frames (x.top ∷ x.below)
  frames = subst (HoldsRead (LiesWithOwner v l) h x) runs (V.tasks t x rests is)

  registers_are : frames_of (slice_get l.machine.tasks t) ≡ x.top ∷ x.below
  registers_are = ap frames_of is

  -- the object at an address that stands for a name has that name
  bears : (u : ℕ) (o : Located) (n : Name) (a : Addr) → Rests l u → In (objects v u) o → o.at ≡ a → LiesWithOwner v l n a → (object_name o ≡ n) × (own l n ≡ u)
  bears u o n a r i e p =
      let mine : own l n ≡ u = same_Some (own l n) u (sym p.chunk ∙ (ap (λ (b : Addr). v.owner b.chunk) (sym e) ∙ lies_in v l V u o r i)) in
      let q = p.here (subst (Rests l) (sym mine) r) in
      let same : o ≡ q.0 = (V.belongings u r).once o q.0 i (subst (λ z. In (objects v z) q.0) mine q.1) (e ∙ sym q.2.at) in
      (ap object_name same ∙ q.2.name, mine)

  -- and an address that stands for its name is its address
  lies_at : (o : Located) (n : Name) (a : Addr) → In (objects v t) o → object_name o ≡ n → LiesWithOwner v l n a → a ≡ o.at
  lies_at o n a i e p =
      let mine : own l n ≡ t = sym (ap (own l) e) ∙ belongings_own v l S t (V.belongings t rests) o i in
      let q = p.here (subst (Rests l) (sym mine) rests) in
      let same : o ≡ q.0 = (V.belongings t rests).named o q.0 i (subst (λ z. In (objects v z) q.0) mine q.1) (e ∙ sym q.2.name) in
      sym q.2.at ∙ ap (λ (z : Located). z.at) (sym same)

  is_name_held : (o : Located) → In (objects v t) o → In names (object_name o)
  is_name_held o i = object_held h.chunks (heap_of l t) (V.belongings t rests).names o i

  -- FROM ADDRESSES TO NAMES

  root_name : (o : Located) (a : Addr) → In (objects v t) o → o.at ≡ a → In roots a → In (roots_of l t) (object_name o)
  root_name o a i e j =
      let k = (R a).0 j in
      let c = V.contents k.task k.object k.rests k.there in
      let f = name_at (LiesWithOwner v l) k.object.refs c.0.refs k.source.field a c.2.refs k.holds in
      let m = bears t o f.0 a rests i e f.2 in
      let s = V.sources t k.source k.noted in
      let b = bears k.task k.object s.name k.source.object k.rests k.there k.at s.place in
      let up : is_proper_ancestor l.machine.tasks (own l (object_name k.object)) t ≡ true =
      subst (λ z. is_proper_ancestor l.machine.tasks (own l z) t ≡ true) (sym b.0) (and_from (is_on_path l.machine.tasks (own l s.name) t) (not (own l s.name == t)) s.above (ap not (ne_eqb (own l s.name) t s.below))) in
      let held_q : In (held l) (object_name k.object) = in_held l (object_name k.object) (is_kept v l k.task (V.belongings k.task k.rests) k.object k.there) in
      subst (In (roots_of l t)) (sym m.0)
      (in_append_right (registers (frames_of (slice_get l.machine.tasks t))) _ f.0
      (in_flat (refs_at l.machine.store) _ (object_name k.object) f.0
      (in_kept (λ n. is_proper_ancestor l.machine.tasks (own l n) t) (held l) (object_name k.object) held_q up)
      (refers l.machine.store (object_name k.object) f.0 c.0 c.1 (got_in c.0.refs k.source.field (Some f.0) f.1))))

  register_name : (o : Located) (a : Addr) (f : CallFrame) → In (objects v t) o → o.at ≡ a → In h.frames f → In f.refs (Some a) → In (roots_of l t) (object_name o)
  register_name o a f i e j k =
      let q = frame_name (LiesWithOwner v l) h.frames (x.top ∷ x.below) f a frames j k in
      let m = bears t o q.0 a rests i e q.2 in
      subst (In (roots_of l t)) (sym m.0) (in_append_left (registers (frames_of (slice_get l.machine.tasks t))) _ q.0 (subst (λ fs. In (registers fs) q.0) (sym registers_are) q.1))

  start_name : (o : Located) (a : Addr) → In (objects v t) o → o.at ≡ a → ((f : CallFrame) × In h.frames f × In f.refs (Some a)) ⊎ In roots a → In (roots_of l t) (object_name o)
  start_name o a i e (inl f) = register_name o a f.0 i e f.1 f.2
  start_name o a i e (inr j) = root_name o a i e j

  to_names : (k : ℕ) (o : Located) (a : Addr) → In (objects v t) o → o.at ≡ a → IsWalk (StartsAt h roots) (LeadsAt h) k a → In (within l t) (object_name o)
  to_names zero o a i e w = reached_root l.machine.store names (roots_of l t) (object_name o) (is_name_held o i) (start_name o a i e w.2)
  to_names (suc k) o a i e w =
      let d = w.2 in
      let c = V.contents t d.0 rests d.2.0 in
      let j = in_got d.0.refs (Some a) d.3 in
      let f = name_at (LiesWithOwner v l) d.0.refs c.0.refs j.0 a c.2.refs j.1 in
      let m = bears t o f.0 a rests i e f.2 in
      reached_more l.machine.store names (roots_of l t) (object_name d.0) (object_name o) (to_names k d.0 w.0 d.2.0 d.2.1 w.1)
      (subst (In (refs_at l.machine.store (object_name d.0))) (sym m.0) (refers l.machine.store (object_name d.0) f.0 c.0 c.1 (got_in c.0.refs j.0 (Some f.0) f.1))) (is_name_held o i)

  -- FROM NAMES TO ADDRESSES

  above_rests : (m : Name) → is_proper_ancestor l.machine.tasks (own l m) t ≡ true → Rests l (own l m) × (is_on_path l.machine.tasks t (own l m) ≡ true → ⊥)
  above_rests m e =
      let p = and_parts (is_on_path l.machine.tasks (own l m) t) (not (own l m == t)) e in
      let ne : own l m ≡ t → ⊥ = eqb-false (own l m) t (not-true (own l m == t) p.1) in
      (at_rest (own l m) (waits ne p.0), (λ d. ne (sym (leaf_alone l S t (own l m) idle (own_live l S m) d))))
    where
      waits : (own l m ≡ t → ⊥) → is_on_path l.machine.tasks (own l m) t ≡ true → is_waiting (slice_get l.machine.tasks (own l m)) ≡ true
      waits ne p = waits_by_cases (is_waiting (slice_get l.machine.tasks (own l m))) refl
        where
          waits_by_cases : (b : Bool) → is_waiting (slice_get l.machine.tasks (own l m)) ≡ b → b ≡ true
          waits_by_cases true e = refl
          waits_by_cases false e = absurd (ne (leaf_alone l S (own l m) t e live p))

  abbrev Start : Addr → Type 0
  Start a = ((f : CallFrame) × In h.frames f × In f.refs (Some a)) ⊎ In roots a

  start_address : (o : Located) → In (objects v t) o → In (roots_of l t) (object_name o) → Start o.at
  start_address o i j = elim (in_append_cases (registers (frames_of (slice_get l.machine.tasks t))) _ (object_name o) j) [
    | inl r ↦
        let q = frame_address (LiesWithOwner v l) h.frames (x.top ∷ x.below) (object_name o) frames (subst (λ fs. In (registers fs) (object_name o)) registers_are r) in
        inl (q.0, q.2, subst (λ (a : Addr). In q.0.refs (Some a)) (lies_at o (object_name o) q.1 i refl q.4) q.3)
    | inr r ↦
        let q = from_flat (refs_at l.machine.store) _ (object_name o) r in
        let k = in_from_kept (λ n. is_proper_ancestor l.machine.tasks (own l n) t) (held l) q.0 q.1 in
        inr (noted o i q.0 k.0 k.1 q.2)
  ]
    where
      noted : (o : Located) → In (objects v t) o → (m : Name) → In (held l) m → is_proper_ancestor l.machine.tasks (own l m) t ≡ true → In (refs_at l.machine.store m) (object_name o) → In roots o.at
      noted o i m held_m up r =
          let k = held_keeps l m held_m in
          let mine : own l m ≡ k.0 = (S.owners k.0 m k.1).1 in
          let ab = above_rests m up in
          let ru : Rests l k.0 = subst (Rests l) mine ab.0 in
          let q = held_object (v.belongings k.0).chunks (heap_of l k.0) (V.belongings k.0 ru).names m k.1 in
          let c = V.contents k.0 q.0 ru q.1 in
          let j = in_got c.0.refs (Some (object_name o)) (in_from_named c.0.refs (object_name o) (subst (λ z. In (refs_of z) (object_name o)) (ap (object_at l.machine.store) (sym q.2) ∙ c.1) r)) in
          let b = address_at (LiesWithOwner v l) q.0.refs c.0.refs j.0 (object_name o) c.2.refs j.1 in
          let at : b.0 ≡ o.at = lies_at o (object_name o) b.0 i refl b.2 in
          let own_o : own l (object_name o) ≡ t = belongings_own v l S t (V.belongings t rests) o i in
          elim (V.remembered k.0 q.0 c.0 j.0 (object_name o) ru q.1 c.1 j.1) [
            | inl d ↦ absurd (ab.1 (ap (λ z. is_on_path l.machine.tasks z (own l m)) (sym own_o) ∙ (ap (is_on_path l.machine.tasks (own l (object_name o))) mine ∙ d)))
            | inr s ↦ (R o.at).1 (record {
              source = record { object = q.0.at; field = j.0 };
              task = k.0;
              object = q.0;
              rests = ru;
              noted = subst (λ z. In (sources v z) (record { object = q.0.at; field = j.0 })) own_o s;
              there = q.1;
              at = refl;
              holds = b.1 ∙ ap (λ (a : Addr). Some (Some a)) at;
              into = lies_in v l V t o rests i;
            })
          ]

  to_addresses : (k : ℕ) (n : Name) (o : Located) → In (objects v t) o → object_name o ≡ n → IsWalk (StartsWithin names (roots_of l t)) (LeadsWithin l.machine.store names) k n → IsReachedAt h roots o.at
  to_addresses zero n o i e w = (zero, (o, (i, refl), start_address o i (subst (In (roots_of l t)) (sym e) (in_from_contains (roots_of l t) n w.1))))
  to_addresses (suc k) n o i e w =
      let m = held_within k w.0 w.1 in
      let q = held_object h.chunks (heap_of l t) (V.belongings t rests).names w.0 m in
      let more = to_addresses k w.0 q.0 q.1 q.2 w.1 in
      let c = V.contents t q.0 rests q.1 in
      let r : In (refs_at l.machine.store (object_name q.0)) (object_name o) = subst (λ z. In (refs_at l.machine.store z) (object_name o)) (sym q.2) (subst (In (refs_at l.machine.store w.0)) (sym e) (in_from_contains (refs_at l.machine.store w.0) n w.2.1)) in
      let j = in_got c.0.refs (Some (object_name o)) (in_from_named c.0.refs (object_name o) (subst (λ z. In (refs_of z) (object_name o)) c.1 r)) in
      let b = address_at (LiesWithOwner v l) q.0.refs c.0.refs j.0 (object_name o) c.2.refs j.1 in
      let there : In q.0.refs (Some o.at) = subst (λ (a : Addr). In q.0.refs (Some a)) (lies_at o (object_name o) b.0 i refl b.2) (got_in q.0.refs j.0 (Some b.0) b.1) in
      (suc more.0, (q.0.at, more.1, (q.0, o, (q.1, refl), there, (i, refl))))
    where
      held_within : (k : ℕ) (m : Name) → IsWalk (StartsWithin names (roots_of l t)) (LeadsWithin l.machine.store names) k m → In names m
      held_within zero m w = in_from_contains names m w.0
      held_within (suc k) m w = in_from_contains names m w.2.0

  -- an object is reachable by addresses if and only if its name is reachable within the heap
  pub reached_both : (o : Located) → In (objects v t) o → IsReachedAt h roots o.at ↔ In (within l t) (object_name o)
  reached_both o i = (
    (λ w. to_names w.0 o o.at i refl w.1),
    (λ j. let w = (reached_is_walks l.machine.store names (roots_of l t) (object_name o)).0 (contains_from_in (within l t) (object_name o) j) in to_addresses w.0 (object_name o) o i refl w.1),
  )
