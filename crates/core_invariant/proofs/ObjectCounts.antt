-- The objects that are read of chunks: their names, and how many there are.
use Rattle.core_invariant.proofs.Common.{◌≡◌, ℕ, ◌+◌, ◌++◌, arith, None, List, [], ◌∷◌, All, length, length-append, refl, All-head, All-tail, Born, Cell, Hole, Mark, Moved, moved_to, size_of, held_size, object_count, one_each, sum_in, ChunkValue, located_by, objects_from, AreTidy, IsTidy, objects_of_chunks, chunk_of, chunks_of}

-- AS MANY OBJECTS are counted as are read
cells_counted : (cs : List Cell) (number at : ℕ) → All (λ c. moved_to c.mark ≡ None) cs → sum_in one_each cs ≡ length (objects_from number at cs)
cells_counted [] number at t = refl
cells_counted (c ∷ cs) number at t = cells_counted_by_cases c.mark (All-head (λ (d : Cell). moved_to d.mark ≡ None) c cs t) (cells_counted cs number (at + size_of c) (All-tail (λ (d : Cell). moved_to d.mark ≡ None) c cs t))
  where
    cells_counted_by_cases : (m : Mark) → moved_to m ≡ None → sum_in one_each cs ≡ length (objects_from number (at + size_of c) cs) → held_size m 1 + sum_in one_each cs ≡ length (located_by number at c m (objects_from number (at + size_of c) cs))
    cells_counted_by_cases (Born b) e go = omega (arith, go)
    cells_counted_by_cases (Moved to) e go = absurd cc
    cells_counted_by_cases Hole e go = omega (arith, go)

pub objects_counted : (ks : List ChunkValue) → AreTidy ks → object_count ks ≡ length (objects_of_chunks (chunks_of ks))
objects_counted [] t = refl
objects_counted (k ∷ ks) t =
    let one : sum_in one_each k.cells ≡ length (chunk_of k).objects = cells_counted k.cells k.number 0 (All-head IsTidy k ks t).unmoved in
    let rest : object_count ks ≡ length (objects_of_chunks (chunks_of ks)) = objects_counted ks (All-tail IsTidy k ks t) in
    let sum : length ((chunk_of k).objects ++ objects_of_chunks (chunks_of ks)) ≡ length (chunk_of k).objects + length (objects_of_chunks (chunks_of ks)) = length-append (chunk_of k).objects (objects_of_chunks (chunks_of ks)) in
    omega (arith, one, rest, sum)
