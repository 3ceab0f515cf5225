-- What is at an address of a heap after an object is placed, a chunk added, or heaps merged.
use Rattle.leaf_heap.proofs.Common.{◌≡◌, ℕ, zero, suc, ◌<◌, true, false, List, [], ◌∷◌, ◌++◌, length, get_or, set, refl, sym, ap, ◌∙◌, arith, ⊎_elim, eqb, length-set, cases_Bool, eq-eqb, ne_eqb, get_or-set_same, Addr, Cell, IsObject, cell_of, chunk_at, next_address, no_chunk, chunk_position, push_object, ChunkValue, cell_at, words_in, cell_of-found, HaveDistinctNumbers, IsFresh}
use Rattle.object_layout.proofs.PlaceLemmas as place
use Rattle.leaf_heap.proofs.HeapLemmas as heap
use Rattle.leaf_heap.proofs.ChunkAdded as added

-- if numbers are distinct, each chunk is found by its number
pub place_of-own : (ks : List ChunkValue) → HaveDistinctNumbers ks → (i : ℕ) → i < length ks → chunk_position ks (chunk_at ks i).number ≡ i
place_of-own [] h i l = absurd (omega arith)
place_of-own (k ∷ ks) h zero l = rw (eq-eqb k.number k.number refl)
place_of-own (k ∷ ks) h (suc i) l =
    let apart : k.number ≡ (chunk_at ks i).number → ⊥ = λ e. added.fresh_at ks k.number h.0 i no_chunk (omega arith) (sym e) in
    rw (ne_eqb k.number (chunk_at ks i).number apart, place_of-own ks h.1 i (omega arith)) (omega arith)

-- a placed object is read where it was placed
pub cell_of-placed : (ks : List ChunkValue) → HaveDistinctNumbers ks → (i : ℕ) (c : Cell) → i < length ks → cell_of (push_object ks i c) (next_address (chunk_at ks i)) ≡ c
cell_of-placed ks h i c l =
    let found = heap.place_of-set ks i (record (chunk_at ks i) { cells = (chunk_at ks i).cells ++ c ∷ [] }) no_chunk refl (chunk_at ks i).number ∙ place_of-own ks h i l in
    let in' : chunk_position (push_object ks i c) (chunk_at ks i).number < length (push_object ks i c) = rw (found, length-set) l in
    let read = cell_of-found (push_object ks i c) (next_address (chunk_at ks i)) no_chunk in' in
    let there = get_or-set_same ks i (record (chunk_at ks i) { cells = (chunk_at ks i).cells ++ c ∷ [] }) no_chunk l in
    read
    ∙ ap (λ (n : ℕ). cell_at (get_or (push_object ks i c) n no_chunk).cells (words_in (chunk_at ks i).cells)) found
    ∙ ap (λ (k : ChunkValue). cell_at k.cells (words_in (chunk_at ks i).cells)) there
    ∙ place.cell_at-last (chunk_at ks i).cells c

-- the objects that were there are unchanged
pub cell_of-others : (ks : List ChunkValue) (i : ℕ) (c : Cell) (b : Addr) → IsObject (cell_of ks b).mark → cell_of (push_object ks i c) b ≡ cell_of ks b
cell_of-others [] i c b o = refl
cell_of-others (k ∷ ks) zero c b o =
    ⊎_elim
    (λ (e : eqb k.number b.chunk ≡ true). let p = rw e at o in rw e (place.cell_at-push k.cells c b.offset (place.cell_of_object k.cells b.offset p)))
    (λ (e : eqb k.number b.chunk ≡ false). rw e)
    (cases_Bool (eqb k.number b.chunk))
cell_of-others (k ∷ ks) (suc i) c b o =
    ⊎_elim
    (λ (e : eqb k.number b.chunk ≡ true). rw e)
    (λ (e : eqb k.number b.chunk ≡ false). let p = rw e at o in rw e (cell_of-others ks i c b p))
    (cases_Bool (eqb k.number b.chunk))

-- numbers stay distinct if a fresh chunk is added
pub apart_added : (ks : List ChunkValue) (k : ChunkValue) → HaveDistinctNumbers ks → IsFresh ks k.number → HaveDistinctNumbers (ks ++ k ∷ [])
apart_added [] k h f = (refl, tt)
apart_added (x ∷ xs) k h f =
    let ne : k.number ≡ x.number → ⊥ = λ e. added.fresh_head x xs k.number f (sym e) in (
      added.place_in-push xs k (added.fresh_tail x xs k.number f) x.number ∙ rw (ne_eqb k.number x.number ne) h.0,
      apart_added xs k h.1 (added.fresh_tail x xs k.number f),
    )

-- and if one is written, or an object is placed in it
pub apart_set : (ks : List ChunkValue) (i : ℕ) (k : ChunkValue) → k.number ≡ (chunk_at ks i).number → HaveDistinctNumbers ks → HaveDistinctNumbers (set ks i k)
apart_set [] i k e h = h
apart_set (x ∷ xs) zero k e h = (rw e h.0, h.1)
apart_set (x ∷ xs) (suc i) k e h = (heap.place_in-set xs i k no_chunk e x.number ∙ h.0, apart_set xs i k e h.1)
