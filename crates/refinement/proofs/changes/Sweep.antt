-- A sweep of a waiting task's heap: exactly its snapshot stays, and nothing moves.
use Rattle.refinement.proofs.Common.{is_some, ◌≡◌, ℕ, true, Option, Some, None, List, length, slice_get, inl, inr, refl, ap, sym, subst, ◌∙◌, cases_eq, Addr, Located, Name, Object, Task, MachineState, object_at, row_of, refs_at, refs_of, task_names, is_joined, is_waiting, named_from_in, Heap, Ledger, heap_of, or_fresh, SoundLedger, SomeHeapHas, InHeaps, Spares, snapshot_at, RefField, own, Rests, ChangesHeap, Belongings, Memory, In, object_name, objects, objects_of_chunks, sources, Lies, TaskIsRead, LiesWithOwner, BelongingsStand, IsSource, MemoryStands, KeepsJust}
use Rattle.refinement.proofs.changes.Shown.{sweep_shown}
use Rattle.refinement.proofs.changes.Same.{own_same, path_same, store_same, source_same, remembered_same, rests_before, worker_same}
use Rattle.refinement.proofs.objects.Carry.{object_kept, task_kept, same_holding}
use Rattle.refinement.proofs.objects.Members.{object_held, in_chunk}
use Rattle.refinement.proofs.changes.Alone.{belongings_own, belongings_kept}
use Rattle.refinement.proofs.changes.Giving.{gives_kept}

pub snapshot_is : (o : Option Heap) → snapshot_at o ≡ (or_fresh o).snapshot
snapshot_is None = refl
snapshot_is (Some h) = refl

-- a name that an object refers to
pub refers : (store : List (List Object)) (n r : Name) (x : Object) → object_at store n ≡ Some x → In x.refs (Some r) → In (refs_at store n) r
refers store n r x is i = subst (λ o. In (refs_of o) r) (sym is) (named_from_in x.refs r i)

-- an object of a task is kept by the ledger
pub is_kept : (v : Memory) (l : Ledger) (u : ℕ) → BelongingsStand v l u → (o : Located) → In (objects v u) o → SomeHeapHas l.heaps (object_name o)
is_kept v l u H o i = (u, object_held (v.belongings u).chunks (heap_of l u) H.names o i)

-- with its owner's heap reduced to some names, all that is read of it has one of these names
module _ (l : Ledger) (t : ℕ) (S : SoundLedger l) (names : List Name) (spares : Spares l.machine.tasks l.machine.store l.heaps t names) where
  abbrev pub Live : Name → Type 0
  Live n = own l n ≡ t → In names n

  in_heap : (n : Name) → SomeHeapHas l.heaps n → own l n ≡ t → InHeaps l.heaps t n
  in_heap n k e = let o : own l n ≡ k.0 = (S.owners k.0 n k.1).1 in subst (λ u. InHeaps l.heaps u n) (sym o ∙ e) k.1

  pub live_task : (u : ℕ) (x : Task) (r : Name) → slice_get l.machine.tasks u ≡ Some x → In (task_names x) r → Live r
  live_task u x r is i e = let k = spares.of_task u x r is i in k.1 (in_heap r k.0 e)

  pub live_ref : (n r : Name) (x : Object) → object_at l.machine.store n ≡ Some x → SomeHeapHas l.heaps n → Live n → In x.refs (Some r) → Live r
  live_ref n r x is k f i e =
      let q = spares.of_object n r (k, λ j. f ((S.owners t n j).1)) (refers l.machine.store n r x is i) in
      q.1 (in_heap r q.0 e)

module _ (v v' : Memory) (l l' : Ledger) (t : ℕ) (names : List Name) (S : SoundLedger l) (V : MemoryStands v l) (waits : is_waiting (slice_get l.machine.tasks t) ≡ true) (rests : Rests l t)
    (L : ChangesHeap l l' t) (C : KeepsJust v v' l l' t (heap_of l t).snapshot) where
  abbrev snapshot : List Name
  snapshot = (heap_of l t).snapshot

  spares : Spares l.machine.tasks l.machine.store l.heaps t snapshot
  spares = subst (Spares l.machine.tasks l.machine.store l.heaps t) (snapshot_is (slice_get l.heaps t)) (S.waits t waits)

  snapshot_same : (u : ℕ) → (heap_of l' u).snapshot ≡ (heap_of l u).snapshot
  snapshot_same u = elim (cases_eq u t) [
    | inl e ↦ ap (λ z. (heap_of l' z).snapshot) e ∙ (L.snapshot ∙ ap (λ z. (heap_of l z).snapshot) (sym e))
    | inr ne ↦ ap (λ (h : Heap). h.snapshot) (L.others u ne)
  ]

  -- what stays in a heap was there, and has a name of the snapshot if it is in this heap
  was : (u : ℕ) (o : Located) → In (objects v' u) o → In (objects v u) o × (u ≡ t → In snapshot (object_name o))
  was u o i = elim (cases_eq u t) [
    | inl e ↦
        let q = C.only o (subst (λ z. In (objects v' z) o) e i) in
        (subst (λ z. In (objects v z) o) (sym e) q.0, λ e. q.1)
    | inr ne ↦ (subst (λ (h : Belongings). In (objects_of_chunks h.chunks) o) (C.others u ne) i, λ e. absurd (ne e))
  ]

  at_belongings : (n : Name) (a : Addr) → own l n ≡ t → Live l t S snapshot spares n → LiesWithOwner v l n a → Lies (v'.belongings t).chunks n a
  at_belongings n a e f p =
      let q : Lies (v.belongings t).chunks n a = subst (λ u. Lies (v.belongings u).chunks n a) e (p.here (subst (Rests l) (sym e) rests)) in
      (q.0, C.stays q.0 q.1 (subst (In snapshot) (sym q.2.name) (f e)), q.2)

  place : (n : Name) (a : Addr) → Live l t S snapshot spares n → LiesWithOwner v l n a → LiesWithOwner v' l' n a
  place n a f p = elim (cases_eq (own l n) t) [
    | inl e ↦
        let q = at_belongings n a e f p in
        let k = in_chunk (v'.belongings t).chunks q.0 q.1 in
        let at : a.chunk ≡ k.0.number = ap (λ (b : Addr). b.chunk) (sym q.2.at) ∙ C.belongings.inside k.0 q.0 k.1 k.2 in
        let e' : own l' n ≡ t = own_same l l' L.machine n ∙ e in
        record {
          chunk = ap v'.owner at ∙ (C.belongings.owned k.0 k.1 ∙ ap Some (sym e'));
          here = λ r. subst (λ u. Lies (v'.belongings u).chunks n a) (sym e') q;
        }
    | inr ne ↦ record {
      chunk = C.owners a.chunk (own l n) ne p.chunk ∙ ap Some (sym (own_same l l' L.machine n));
      here = λ r.
          subst (λ u. Lies (v'.belongings u).chunks n a) (sym (own_same l l' L.machine n))
          (subst (λ (h : Belongings). Lies h.chunks n a) (sym (C.others (own l n) ne)) (p.here (rests_before l l' t L (own l n) (subst (Rests l') (own_same l l' L.machine n) r))));
    }
  ]

  belongings : (u : ℕ) → Rests l' u → BelongingsStand v' l' u
  belongings u r = elim (cases_eq u t) [
    | inl e ↦ subst (BelongingsStand v' l') (sym e) C.belongings
    | inr ne ↦ belongings_kept v v' l l' u (C.others u ne) (λ k. C.owners k u ne) (L.others u ne) (ap (λ (m : MachineState). length (row_of (slice_get m.store u))) L.machine) (ap (λ (m : MachineState). is_joined (slice_get m.tasks u)) L.machine) (V.belongings u (rests_before l l' t L u r))
  ]

  live_object : (u : ℕ) (o : Located) → Rests l' u → In (objects v' u) o → Live l t S snapshot spares (object_name o)
  live_object u o r i e = let q = was u o i in q.1 (sym (belongings_own v l S u (V.belongings u (rests_before l l' t L u r)) o q.0) ∙ e)

  task : (u : ℕ) (x : Task) → Rests l' u → slice_get l'.machine.tasks u ≡ Some x → TaskIsRead (LiesWithOwner v' l') (v'.belongings u) x
  task u x r is =
      let is' : slice_get l.machine.tasks u ≡ Some x = sym (ap (λ (m : MachineState). slice_get m.tasks u) L.machine) ∙ is in
      let k : TaskIsRead (LiesWithOwner v' l') (v.belongings u) x = task_kept (LiesWithOwner v l) (LiesWithOwner v' l') (v.belongings u) x (λ n j a. place n a (live_task l t S snapshot spares u x n is' j)) (V.tasks u x (rests_before l l' t L u r) is') in
      elim (cases_eq u t) [
        | inl e ↦ same_holding (LiesWithOwner v' l') (v.belongings u) (v'.belongings u) x (ap (λ z. (v'.belongings z).frames) e ∙ (C.frames ∙ ap (λ z. (v.belongings z).frames) (sym e))) (ap (λ z. (v'.belongings z).result) e ∙ (C.result ∙ ap (λ z. (v.belongings z).result) (sym e))) k
        | inr ne ↦ subst (λ (h : Belongings). TaskIsRead (LiesWithOwner v' l') h x) (sym (C.others u ne)) k
      ]

  source : (u : ℕ) (s : RefField) → In (sources v' u) s → IsSource v' l' u s
  source u s i =
      let k = V.sources u s (subst (λ ss. In ss s) (C.sources u) i) in
      source_same l l' L.machine v v' u s k (place k.name s.object (λ o. subst (λ z. In (heap_of l z).snapshot k.name) o k.snapshot) k.place) (worker_same l l' t L (own l k.name))
      (subst (λ ns. In ns k.name) (sym (snapshot_same (own l k.name))) k.snapshot)

  view_same : (z : ℕ) → (v'.belongings z).view ≡ (v.belongings z).view
  view_same z = elim (cases_eq z t) [ inl e ↦ ap (λ k. (v'.belongings k).view) e ∙ (C.view ∙ ap (λ k. (v.belongings k).view) (sym e)) | inr ne ↦ ap (λ (h : Belongings). h.view) (C.others z ne) ]

  pub swept : MemoryStands v' l'
  swept = record {
    gives = λ z u r j up ne w ru. gives_kept v v' u z (view_same z) (view_same u) (λ k o. C.owned k u o) (V.gives z u (rests_before l l' t L z r) (sym (ap (λ (m : MachineState). is_joined (slice_get m.tasks z)) L.machine) ∙ j) (sym (path_same l l' L.machine u z) ∙ up) ne (sym (ap (λ (m : MachineState). is_waiting (slice_get m.tasks u)) L.machine) ∙ w) (rests_before l l' t L u ru));
    views = λ z r j. sweep_shown v v' l l' t snapshot V.views C view_same (λ u y. path_same l l' L.machine u y) (rests_before l l' t L) z (rests_before l l' t L z r) (sym (ap (λ (m : MachineState). is_joined (slice_get m.tasks z)) L.machine) ∙ j);
    made = λ k u e. ap (λ (m : MachineState). is_some (slice_get m.tasks u)) L.machine ∙ V.made k u (C.owned k u e);
    belongings = belongings;
    contents = λ u o r i.
        let w = was u o i in
        let c = V.contents u o (rests_before l l' t L u r) w.0 in (
          c.0,
          store_same l l' L.machine (object_name o) ∙ c.1,
          object_kept (LiesWithOwner v l) (LiesWithOwner v' l') o c.0 (λ n j a. place n a (live_ref l t S snapshot spares (object_name o) n c.0 c.1 (is_kept v l u (V.belongings u (rests_before l l' t L u r)) o w.0) (live_object u o r i) j)) c.2,
        );
    tasks = task;
    remembered = λ u o x i n r j is at. remembered_same l l' L.machine v v' u n (record { object = o.at; field = i }) (C.sources (own l n)) (V.remembered u o x i n (rests_before l l' t L u r) (was u o j).0 (sym (store_same l l' L.machine (object_name o)) ∙ is) at);
    sources = source;
  }
