-- A private step of a task whose belongings aren't in the memory: the memory stands for the accounts after it too.
use Rattle.refinement.proofs.Common.{◌≡◌, ℕ, false, Some, length, slice_get, inl, inr, refl, ap, sym, subst, ◌∙◌, both_ways, Addr, Located, Name, row_of, is_joined, is_waiting, is_on_path, Heap, Ledger, heap_of, SoundLedger, own, Rests, StepsAlone, Belongings, Memory, In, object_name, objects, objects_of_chunks, sources, Lies, AreLaidOut, LiesWithOwner, ChunksHaveNames, BelongingsStand, MemoryStands}
use Rattle.refinement.proofs.objects.Carry.{object_kept, task_kept}
use Rattle.refinement.proofs.objects.Members.{object_held}
use Rattle.refinement.proofs.changes.Same.{source_alone}

-- the objects among a task's belongings are its own
pub belongings_own : (v : Memory) (l : Ledger) → SoundLedger l → (t : ℕ) → BelongingsStand v l t → (o : Located) → In (objects v t) o → own l (object_name o) ≡ t
belongings_own v l S t H o i = (S.owners t (object_name o) (object_held (v.belongings t).chunks (heap_of l t) H.names o i)).1

-- what the account says of a task's belongings stays true of them
pub belongings_kept : (v v' : Memory) (l l' : Ledger) (t : ℕ) → v'.belongings t ≡ v.belongings t → ((k : ℕ) → v.owner k ≡ Some t → v'.owner k ≡ Some t) → heap_of l' t ≡ heap_of l t → length (row_of (slice_get l'.machine.store t)) ≡ length (row_of (slice_get l.machine.store t))
    → is_joined (slice_get l'.machine.tasks t) ≡ is_joined (slice_get l.machine.tasks t) → BelongingsStand v l t → BelongingsStand v' l' t
belongings_kept v v' l l' t eh ow el er ej H = record {
  names = subst (λ (h : Belongings). ChunksHaveNames h.chunks (heap_of l' t)) (sym eh) (subst (ChunksHaveNames (v.belongings t).chunks) (sym el) H.names);
  room = ap (λ (h : Belongings). h.room) eh ∙ (H.room ∙ sym (ap (λ (h : Heap). h.room) el));
  since = ap (λ (h : Belongings). h.since) eh ∙ (H.since ∙ sym (ap (λ (h : Heap). h.since) el));
  count = λ live. ap (λ (h : Belongings). h.count) eh ∙ (H.count (sym ej ∙ live) ∙ sym er);
  owned = λ k i. ow k.number (H.owned k (subst (λ (h : Belongings). In h.chunks k) eh i));
  inside = λ k o i j. H.inside k o (subst (λ (h : Belongings). In h.chunks k) eh i) j;
  once = λ o p i j e. H.once o p (subst (λ (h : Belongings). In (objects_of_chunks h.chunks) o) eh i) (subst (λ (h : Belongings). In (objects_of_chunks h.chunks) p) eh j) e;
  named = λ o p i j e. H.named o p (subst (λ (h : Belongings). In (objects_of_chunks h.chunks) o) eh i) (subst (λ (h : Belongings). In (objects_of_chunks h.chunks) p) eh j) e;
  laid = subst (λ (h : Belongings). AreLaidOut h.chunks (heap_of l' t).reserved) (sym eh) (subst (λ (h : Heap). AreLaidOut (v.belongings t).chunks h.reserved) (sym el) H.laid);
}

module _ (v : Memory) (l l' : Ledger) (t w : ℕ) (S : SoundLedger l) (V : MemoryStands v l) (A : StepsAlone l l' t)
    (out : (heap_of l t).worker ≡ Some w) (out' : (heap_of l' t).worker ≡ Some w) (runs : is_waiting (slice_get l.machine.tasks t) ≡ false) where
  other : (u : ℕ) → Rests l' u → u ≡ t → ⊥
  other u r e = let e' : (heap_of l' u).worker ≡ Some w = ap (λ k. (heap_of l' k).worker) e ∙ out' in absurd cc

  rest : (u : ℕ) → Rests l' u → Rests l u
  rest u r = ap (λ (h : Heap). h.worker) (sym (A.heaps u (other u r))) ∙ r

  place : (n : Name) (a : Addr) → LiesWithOwner v l n a → LiesWithOwner v l' n a
  place n a p =
      let e : own l' n ≡ own l n = A.tree.owners n.task in
      record {
        chunk = p.chunk ∙ ap Some (sym e);
        here = λ r. subst (λ u. Lies (v.belongings u).chunks n a) (sym e) (p.here (rest (own l n) (subst (Rests l') e r)));
      }

  pub steps_alone : MemoryStands v l'
  steps_alone = record {
    views = λ u r j z o up ne rz i. V.views u (rest u r) (sym (A.tree.joins u) ∙ j) z o (sym (A.tree.paths z u) ∙ up) ne (rest z rz) i;
    gives = λ u z r j up ne w rz. V.gives u z (rest u r) (sym (A.tree.joins u) ∙ j) (sym (A.tree.paths z u) ∙ up) ne (sym (A.tree.waits z) ∙ w) (rest z rz);
    made = λ k u e. A.tree.made u ∙ V.made k u e;
    belongings = λ u r. belongings_kept v v l l' u refl (λ k e. e) (A.heaps u (other u r)) (A.rows u (other u r)) (A.tree.joins u) (V.belongings u (rest u r));
    contents = λ u o r i.
        let c = V.contents u o (rest u r) i in
        let ne : own l (object_name o) ≡ t → ⊥ = λ e. other u r (sym (belongings_own v l S u (V.belongings u (rest u r)) o i) ∙ e) in
        (c.0, A.store (object_name o) ne ∙ c.1, object_kept (LiesWithOwner v l) (LiesWithOwner v l') o c.0 (λ n j. place n) c.2);
    tasks = λ u x r is. task_kept (LiesWithOwner v l) (LiesWithOwner v l') (v.belongings u) x (λ n j. place n) (V.tasks u x (rest u r) (sym (A.tasks u (other u r)) ∙ is));
    remembered = λ u o x i n r j is at.
        let ne : own l (object_name o) ≡ t → ⊥ = λ e. other u r (sym (belongings_own v l S u (V.belongings u (rest u r)) o j) ∙ e) in
        elim (V.remembered u o x i n (rest u r) j (sym (A.store (object_name o) ne) ∙ is) at) [
          | inl h ↦ inl (ap (λ k. is_on_path l'.machine.tasks k u) (A.tree.owners n.task) ∙ (A.tree.paths (own l n) u ∙ h))
          | inr s ↦ inr (subst (λ k. In (sources v k) (record { object = o.at; field = i })) (sym (A.tree.owners n.task)) s)
        ];
    sources = λ u s i.
        let k = V.sources u s i in
        let ne : own l k.name ≡ t → ⊥ = λ e. both_ways (is_waiting (slice_get l.machine.tasks t)) runs (ap (λ z. is_waiting (slice_get l.machine.tasks z)) (sym e) ∙ k.waits) in
        source_alone v v l l' t u s k A ne (place k.name s.object k.place);
  }
