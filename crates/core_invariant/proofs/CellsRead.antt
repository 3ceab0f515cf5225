-- The objects that are read from cells, and the cells.
use Rattle.core_invariant.proofs.Common.{◌≡◌, ℕ, suc, ◌+◌, ◌<◌, ◌==◌, arith, Bool, true, false, cond, Some, None, List, [], ◌∷◌, ◌++◌, length, nat_lt, ◌⊎◌, inl, inr, refl, ap, sym, subst, ◌∙◌, eq-eqb, le-leb, cond-true, false≢true, contains_from_in, Addr, Birth, Born, Cell, Hole, Mark, Moved, size_of, ChunkValue, cell_of, place_in, chunk_position, Located, located, located_by, objects_from, objects_of, LiesThere, object_read, objects_lie_there, HaveDistinctNumbers, In, objects_of_chunks, chunks_of, objects_in as located_in}

-- ---- THE CELLS OF ONE CHUNK

-- the objects of a chunk have its number
number_by : (number at : ℕ) (c : Cell) (m : Mark) (os : List Located) → ((o : Located) → In os o → o.at.chunk ≡ number) → (o : Located) → In (located_by number at c m os) o → o.at.chunk ≡ number
number_by number at c (Born b) os h o (inl e) = ap (λ (z : Located). z.at.chunk) (sym e)
number_by number at c (Born b) os h o (inr i) = h o i
number_by number at c (Moved to) os h o i = h o i
number_by number at c Hole os h o i = h o i

pub numbered : (number base : ℕ) (cs : List Cell) (o : Located) → In (objects_from number base cs) o → o.at.chunk ≡ number
numbered number base [] o i = absurd i
numbered number base (c ∷ cs) o i = number_by number base c c.mark (objects_from number (base + size_of c) cs) (numbered number (base + size_of c) cs) o i

-- ---- CHUNKS

-- the objects of a heap's chunks
pub objects_are : (ks : List ChunkValue) → objects_of_chunks (chunks_of ks) ≡ located_in ks
objects_are [] = refl
objects_are (k ∷ ks) = ap (λ os. objects_of k ++ os) (objects_are ks)

-- an object at an address is read there
pub object_seen : (ks : List ChunkValue) (a : Addr) (b : Birth) → (cell_of ks a).mark ≡ Born b → In (objects_of_chunks (chunks_of ks)) (located a.chunk a.offset b (cell_of ks a))
object_seen ks a b e = subst (λ os. In os (located a.chunk a.offset b (cell_of ks a))) (sym (objects_are ks)) (object_read ks a b e)

place_lt : (ks : List ChunkValue) (k : ChunkValue) → In ks k → chunk_position ks k.number < length ks
place_lt [] k i = absurd i
place_lt (y ∷ ys) k i = place_lt_by_cases (y.number == k.number) refl i (place_lt ys k)
  where
    place_lt_by_cases : (v : Bool) → (y.number == k.number) ≡ v → (y ≡ k) ⊎ In ys k → (In ys k → chunk_position ys k.number < length ys) → cond v 0 (1 + chunk_position ys k.number) < length (y ∷ ys)
    place_lt_by_cases true q j go = omega arith
    place_lt_by_cases false q (inl e) go = absurd (false≢true (sym q ∙ eq-eqb y.number k.number (ap (λ (x : ChunkValue). x.number) e)))
    place_lt_by_cases false q (inr j) go = let r = go j in omega (arith, r)

pub fresh_off : (ks : List ChunkValue) (k : ChunkValue) (number : ℕ) → place_in ks number ≡ None → In ks k → k.number ≡ number → ⊥
fresh_off ks k number e i q =
    let lt : chunk_position ks number < length ks = subst (λ n. chunk_position ks n < length ks) q (place_lt ks k i) in
    let some : place_in ks number ≡ Some (chunk_position ks number) = cond-true (nat_lt (chunk_position ks number) (length ks)) (Some (chunk_position ks number)) None (le-leb (suc (chunk_position ks number)) (length ks) (omega (arith, lt))) in
    absurd cc

-- an object that is read is at its address
pub seen_object : (ks : List ChunkValue) (o : Located) → HaveDistinctNumbers ks → In (objects_of_chunks (chunks_of ks)) o → LiesThere ks o
seen_object ks o A i = (objects_lie_there ks A o).0 (contains_from_in (located_in ks) o (subst (λ os. In os o) (objects_are ks) i))
