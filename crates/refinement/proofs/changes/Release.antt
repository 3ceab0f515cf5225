-- A worker takes a task, with its belongings: the memory stands without them.
use Rattle.refinement.proofs.Common.{is_some, ◌≡◌, ℕ, false, Some, length, slice_get, ap, sym, subst, ◌∙◌, both_ways, Addr, Located, Name, MachineState, row_of, is_joined, is_waiting, Heap, Ledger, heap_of, own, Rests, WorkerTakes, Belongings, Memory, In, object_name, objects, objects_of_chunks, sources, Lies, shown_at, TaskIsRead, LiesWithOwner, MemoryStands, SameBut}
use Rattle.refinement.proofs.changes.Same.{own_same, path_same, store_same, source_same, remembered_same}
use Rattle.refinement.proofs.objects.Carry.{object_kept, task_kept}
use Rattle.refinement.proofs.changes.Alone.{belongings_kept}
use Rattle.refinement.proofs.changes.Giving.{gives_kept}

module _ (v v' : Memory) (l l' : Ledger) (t w : ℕ) (V : MemoryStands v l) (idle : is_waiting (slice_get l.machine.tasks t) ≡ false) (L : WorkerTakes l l' t w) (C : SameBut v v' t) where
  other : (u : ℕ) → Rests l' u → u ≡ t → ⊥
  other u r e = let e' : (heap_of l' u).worker ≡ Some w = ap (λ k. (heap_of l' k).worker) e ∙ L.worker in absurd cc

  rest : (u : ℕ) → Rests l' u → Rests l u
  rest u r = ap (λ (h : Heap). h.worker) (sym (L.heaps u (other u r))) ∙ r

  place : (n : Name) (a : Addr) → LiesWithOwner v l n a → LiesWithOwner v' l' n a
  place n a p = record {
    chunk = C.owner a.chunk ∙ (p.chunk ∙ ap Some (sym (own_same l l' L.machine n)));
    here = λ r.
        let r' : Rests l' (own l n) = subst (Rests l') (own_same l l' L.machine n) r in
        subst (λ u. Lies (v'.belongings u).chunks n a) (sym (own_same l l' L.machine n))
        (subst (λ (h : Belongings). Lies h.chunks n a) (sym (C.belongings (own l n) (other (own l n) r'))) (p.here (rest (own l n) r')));
  }

  was : (u : ℕ) (o : Located) → Rests l' u → In (objects v' u) o → In (objects v u) o
  was u o r i = subst (λ (h : Belongings). In (objects_of_chunks h.chunks) o) (C.belongings u (other u r)) i

  pub released : MemoryStands v' l'
  released = record {
    views = λ u r j z o up ne rz i.
        ap (λ (h : Belongings). shown_at h.view o.at) (C.belongings u (other u r)) ∙ V.views u (rest u r) (sym (ap (λ (m : MachineState). is_joined (slice_get m.tasks u)) L.machine) ∙ j) z o (sym (path_same l l' L.machine z u) ∙ up) ne (rest z rz) (was z o rz i);
    gives = λ u z r j up ne w rz.
        gives_kept v v' z u (ap (λ (h : Belongings). h.view) (C.belongings u (other u r))) (ap (λ (h : Belongings). h.view) (C.belongings z (other z rz))) (λ n o. sym (C.owner n) ∙ o)
        (V.gives u z (rest u r) (sym (ap (λ (m : MachineState). is_joined (slice_get m.tasks u)) L.machine) ∙ j) (sym (path_same l l' L.machine z u) ∙ up) ne (sym (ap (λ (m : MachineState). is_waiting (slice_get m.tasks z)) L.machine) ∙ w) (rest z rz));
    made = λ k u e. ap (λ (m : MachineState). is_some (slice_get m.tasks u)) L.machine ∙ V.made k u (sym (C.owner k) ∙ e);
    belongings = λ u r. belongings_kept v v' l l' u (C.belongings u (other u r)) (λ k e. C.owner k ∙ e) (L.heaps u (other u r)) (ap (λ (m : MachineState). length (row_of (slice_get m.store u))) L.machine) (ap (λ (m : MachineState). is_joined (slice_get m.tasks u)) L.machine) (V.belongings u (rest u r));
    contents = λ u o r i.
        let c = V.contents u o (rest u r) (was u o r i) in
        (c.0, store_same l l' L.machine (object_name o) ∙ c.1, object_kept (LiesWithOwner v l) (LiesWithOwner v' l') o c.0 (λ n j. place n) c.2);
    tasks = λ u x r is.
        subst (λ (h : Belongings). TaskIsRead (LiesWithOwner v' l') h x) (sym (C.belongings u (other u r)))
        (task_kept (LiesWithOwner v l) (LiesWithOwner v' l') (v.belongings u) x (λ n j. place n) (V.tasks u x (rest u r) (sym (ap (λ (m : MachineState). slice_get m.tasks u) L.machine) ∙ is)));
    remembered = λ u o x i n r j is at. remembered_same l l' L.machine v v' u n (record { object = o.at; field = i }) (C.sources (own l n)) (V.remembered u o x i n (rest u r) (was u o r j) (sym (store_same l l' L.machine (object_name o)) ∙ is) at);
    sources = λ u s i.
        let k = V.sources u s (subst (λ ss. In ss s) (C.sources u) i) in
        let ne : own l k.name ≡ t → ⊥ = λ e. both_ways (is_waiting (slice_get l.machine.tasks t)) idle (ap (λ z. is_waiting (slice_get l.machine.tasks z)) (sym e) ∙ k.waits) in
        source_same l l' L.machine v v' u s k (place k.name s.object k.place) (ap (λ (h : Heap). h.worker) (L.heaps (own l k.name) ne))
        (subst (λ (h : Heap). In h.snapshot k.name) (sym (L.heaps (own l k.name) ne)) k.snapshot);
  }
