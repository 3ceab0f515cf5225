-- Entries that move nothing: a chunk is taken, a count is set, a collection begins, a heap is marked.
use Rattle.refinement.proofs.Common.{◌≡◌, true, is_some, ℕ, Some, slice_get, inl, inr, ap, sym, subst, ◌∙◌, both_ways, Addr, Located, Name, MachineState, is_joined, is_waiting, Ledger, own, Rests, SameTasks, Memory, In, object_name, objects, sources, Lies, shown_at, LiesWithOwner, MemoryStands, SameObjects}
use Rattle.refinement.proofs.changes.Same.{own_same, path_same, store_same, source_same, remembered_same}
use Rattle.refinement.proofs.objects.Carry.{object_kept, task_kept, same_holding}
use Rattle.refinement.proofs.changes.Giving.{gives_kept}

module _ (v v' : Memory) (l l' : Ledger) (V : MemoryStands v l) (L : SameTasks l l') (C : SameObjects v v' l l') where
  rest : (u : ℕ) → Rests l' u → Rests l u
  rest u r = sym (L.worker u) ∙ r

  lies : (u : ℕ) (n : Name) (a : Addr) → Lies (v.belongings u).chunks n a → Lies (v'.belongings u).chunks n a
  lies u n a q = (q.0, subst (λ os. In os q.0) (sym (C.objects u)) q.1, q.2)

  place : (n : Name) (a : Addr) → LiesWithOwner v l n a → LiesWithOwner v' l' n a
  place n a p = record {
    chunk = C.owner a.chunk (own l n) p.chunk ∙ ap Some (sym (own_same l l' L.machine n));
    here = λ r. subst (λ u. Lies (v'.belongings u).chunks n a) (sym (own_same l l' L.machine n)) (lies (own l n) n a (p.here (rest (own l n) (subst (Rests l') (own_same l l' L.machine n) r))));
  }

  was : (u : ℕ) (o : Located) → In (objects v' u) o → In (objects v u) o
  was u o i = subst (λ os. In os o) (C.objects u) i

  pub renewed : MemoryStands v' l'
  renewed = record {
    views = λ u r j z o up ne rz i.
        ap (λ s. shown_at s o.at) (C.view u) ∙ V.views u (rest u r) (sym (ap (λ (m : MachineState). is_joined (slice_get m.tasks u)) L.machine) ∙ j) z o (sym (path_same l l' L.machine z u) ∙ up) ne (rest z rz) (was z o i);
    gives = λ u z r j up ne w rz.
        let w1 : is_waiting (slice_get l.machine.tasks z) ≡ true = sym (ap (λ (m : MachineState). is_waiting (slice_get m.tasks z)) L.machine) ∙ w in
        gives_kept v v' z u (C.view u) (C.view z) (λ n o. elim (C.taken n z o) [ inl old ↦ old | inr new ↦ absurd (both_ways (is_waiting (slice_get l.machine.tasks z)) new.0 w1) ])
        (V.gives u z (rest u r) (sym (ap (λ (m : MachineState). is_joined (slice_get m.tasks u)) L.machine) ∙ j) (sym (path_same l l' L.machine z u) ∙ up) ne w1 (rest z rz));
    made = λ k u e. ap (λ (m : MachineState). is_some (slice_get m.tasks u)) L.machine ∙ elim (C.taken k u e) [ inl old ↦ V.made k u old | inr new ↦ new.1 ];
    belongings = C.belongings;
    contents = λ u o r i.
        let c = V.contents u o (rest u r) (was u o i) in
        (c.0, store_same l l' L.machine (object_name o) ∙ c.1, object_kept (LiesWithOwner v l) (LiesWithOwner v' l') o c.0 (λ n j. place n) c.2);
    tasks = λ u x r is.
        same_holding (LiesWithOwner v' l') (v.belongings u) (v'.belongings u) x (C.frames u) (C.result u)
        (task_kept (LiesWithOwner v l) (LiesWithOwner v' l') (v.belongings u) x (λ n j. place n) (V.tasks u x (rest u r) (sym (ap (λ (m : MachineState). slice_get m.tasks u) L.machine) ∙ is)));
    remembered = λ u o x i n r j is at. remembered_same l l' L.machine v v' u n (record { object = o.at; field = i }) (C.sources (own l n)) (V.remembered u o x i n (rest u r) (was u o j) (sym (store_same l l' L.machine (object_name o)) ∙ is) at);
    sources = λ u s i.
        let k = V.sources u s (subst (λ ss. In ss s) (C.sources u) i) in
        source_same l l' L.machine v v' u s k (place k.name s.object k.place) (L.worker (own l k.name))
        (subst (λ ns. In ns k.name) (sym (L.snapshot (own l k.name))) k.snapshot);
  }
