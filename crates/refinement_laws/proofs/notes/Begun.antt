-- The invariant of a begun collection: when it begins, and after others' entries.
use Rattle.refinement_laws.proofs.Common.{◌≡◌, ℕ, true, Some, slice_get, ap, sym, subst, ◌∙◌, Running, Task, is_waiting, Heap, Ledger, heap_of, SoundLedger, Belongings, Memory, In, object_name, objects_of_chunks, Rests, Begun, MemoryStands, IsReachedAt, AreRoots, BegunStands, LeafCollectionBegins, reached_both}

pub begins : (v v' : Memory) (l l' : Ledger) (t : ℕ) (x : Task) (b : Begun) → SoundLedger l → MemoryStands v l → slice_get l.machine.tasks t ≡ Some x → x.status ≡ Running → Rests l t → ((u : ℕ) → is_waiting (slice_get l.machine.tasks u) ≡ true → Rests l u)
    → AreRoots v l t b.roots → LeafCollectionBegins v v' l l' t b → BegunStands v' l' t b
begins v v' l l' t x b S V is runs rests at_rest R B = record {
  few = ap (λ (h : Heap). h.begun) B.heap;
  once = B.once;
  owned = B.owned;
  apart = λ k c i j. B.apart k c i (subst (λ (h : Belongings). In h.chunks c) B.belongings j);
  survivors = λ o i.
      let r = reached_both v l t x b.roots S V is runs rests at_rest R o (subst (λ (h : Belongings). In (objects_of_chunks h.chunks) o) B.belongings i) in (
        (λ w. subst (λ (h : Heap). In h.survivors (object_name o)) (sym B.heap) (r.0 (subst (λ (h : Belongings). IsReachedAt h b.roots o.at) B.belongings w))),
        (λ w. subst (λ (h : Belongings). IsReachedAt h b.roots o.at) (sym B.belongings) (r.1 (subst (λ (h : Heap). In h.survivors (object_name o)) B.heap w))),
      );
}

pub begun_stays : (v v' : Memory) (l l' : Ledger) (t : ℕ) (b : Begun) → v'.belongings t ≡ v.belongings t → ((k : ℕ) → v.owner k ≡ Some t → v'.owner k ≡ Some t) → heap_of l' t ≡ heap_of l t → BegunStands v l t b → BegunStands v' l' t b
begun_stays v v' l l' t b belongings owner heap B = record {
  few = ap (λ (h : Heap). h.begun) heap ∙ B.few;
  once = B.once;
  owned = λ k i. owner k (B.owned k i);
  apart = λ k c i j. B.apart k c i (subst (λ (h : Belongings). In h.chunks c) belongings j);
  survivors = λ o i.
      let r = B.survivors o (subst (λ (h : Belongings). In (objects_of_chunks h.chunks) o) belongings i) in (
        (λ w. subst (λ (h : Heap). In h.survivors (object_name o)) (sym heap) (r.0 (subst (λ (h : Belongings). IsReachedAt h b.roots o.at) belongings w))),
        (λ w. subst (λ (h : Belongings). IsReachedAt h b.roots o.at) (sym belongings) (r.1 (subst (λ (h : Heap). In h.survivors (object_name o)) heap w))),
      );
}
