-- A part that gets an empty chunk still fits.
use Rattle.part_scenes.proofs.Common.{◌≡◌, ◌≢◌, ℕ, ◌≤◌, cond, Some, List, [], ◌∷◌, ◌++◌, length, refl, ap, sym, subst, ◌∙◌, eqb, inl, inr, cases_Bool, ne_eqb, Addr, Cell, cell_of, place_in, ChunkValue, cell_at, LeafHeapValue, IsFresh, added, with_places, place_in-push, ProgramText, Name, Object, MachineState, owner_of, Private, Places, name_of, FitsNow, HeapStands, IsOwnObject, chunks_added, shape_added, now_changed}

-- no name has an address in the chunk of this number
abbrev pub IsOutside : Places → ℕ → Type 0
IsOutside above number = (n : Name) (a : Addr) → above n ≡ Some a → number ≢ a.chunk

-- an empty chunk has nothing to read
cell_of-added : (ks : List ChunkValue) (k : ChunkValue) (a : Addr) → k.cells ≡ [] → cell_of (ks ++ k ∷ []) a ≡ cell_of ks a
cell_of-added [] k a e = elim (cases_Bool (eqb k.number a.chunk)) [
  | inl t ↦ rw t (ap (λ cs. cell_at cs a.offset) e)
  | inr t ↦ rw t refl
]
cell_of-added (x ∷ xs) k a e = elim (cases_Bool (eqb x.number a.chunk)) [
  | inl t ↦ rw t refl
  | inr t ↦ rw t (cell_of-added xs k a e)
]

module _ (h : LeafHeapValue) (k : ChunkValue) (empty : k.cells ≡ []) (fresh : IsFresh h.chunks k.number) where
  pub heap_added : (place : Places) (owner : ℕ → ℕ) (t : ℕ) (store : List (List Object)) (above : Places) → IsOutside above k.number → HeapStands place owner t store h.chunks above → HeapStands place owner t store (h.chunks ++ k ∷ []) above
  heap_added place owner t store above out H = record {
    objects = λ a b e.
        let same = cell_of-added h.chunks k a empty in
        let P : Cell → Type 0 = λ z. IsOwnObject place owner t store (name_of b) a z in
        subst P (sym same) (H.objects a b (ap (λ (z : Cell). z.mark) (sym same) ∙ e));
    own = λ n a o e. ap (λ (z : Cell). z.mark) (cell_of-added h.chunks k a empty) ∙ H.own n a o e;
    others = H.others;
    once = H.once;
    apart = λ n a e. place_in-push h.chunks k fresh a.chunk ∙ (ap (λ b. cond b (Some (length h.chunks)) (place_in h.chunks a.chunk)) (ne_eqb k.number a.chunk (out n a e)) ∙ H.apart n a e);
    within = H.within;
  }

pub chunk_fits : (p : ProgramText) (old : Private) (m : MachineState) (above : Places) (k : ChunkValue) (slots spare : ℕ) → FitsNow p old m above → IsOutside above k.number → k.cells ≡ [] → 1024 ≤ k.size → IsFresh old.heap.chunks k.number
    → FitsNow p (record old { heap = with_places (added old.heap k) slots spare }) m above
chunk_fits p old m above k slots spare F out empty sized fresh =
    let h : LeafHeapValue = with_places (added old.heap k) slots spare in
    let Q : List ChunkValue → Type 0 = λ ks. HeapStands F.place (owner_of m.tasks) old.task m.store ks above in
    now_changed p old m above F h old.fresh old.begun
    (subst Q (sym (chunks_added old.heap k empty sized fresh slots spare)) (heap_added old.heap k empty fresh F.place (owner_of m.tasks) old.task m.store above out F.heap))
    (shape_added old.heap k empty sized fresh F.shape slots spare)
