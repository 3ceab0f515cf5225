-- Writes of fields keep the counts of chunks.
use Rattle.leaf_heap.proofs.Common.{◌≡◌, ℕ, zero, suc, ◌+◌, List, [], ◌∷◌, refl, ap, ap₂, inl, inr, eqb, cases_Bool, Addr, Cell, size_of, ChunkValue, cell_of, chunk_at, object_words_in, held_size, held_words, one_each, put_object, small_part, sum_in, sum_of, length-put, KeepsShape, WritesKeepCounts}
use Rattle.object_layout.proofs.PlaceLemmas as place
use Rattle.leaf_heap.proofs.HeapLemmas as heap

same_shape : (k : ChunkValue) → KeepsShape k k
same_shape k = record { number = refl; size = refl; used = refl }

shapes : (ks : List ChunkValue) (a : Addr) (c : Cell) → size_of c ≡ size_of (cell_of ks a) → (i : ℕ) → KeepsShape (chunk_at ks i) (chunk_at (put_object ks a c) i)
shapes [] a c s i = same_shape _
shapes (k ∷ ks) a c s zero =
    elim (cases_Bool (eqb k.number a.chunk)) [
      | inl e ↦ let here = rw e at s in rw e (record { number = refl; size = refl; used = place.words_in-put k.cells a.offset c here })
      | inr e ↦ rw e (same_shape k)
    ]
shapes (k ∷ ks) a c s (suc i) =
    elim (cases_Bool (eqb k.number a.chunk)) [
      | inl e ↦ rw e (same_shape (chunk_at ks i))
      | inr e ↦ let there = rw e at s in rw e (shapes ks a c there i)
    ]

words_kept : (ks : List ChunkValue) (a : Addr) (c : Cell) → c.mark ≡ (cell_of ks a).mark → size_of c ≡ size_of (cell_of ks a) → held_words (put_object ks a c) ≡ held_words ks
words_kept [] a c m s = refl
words_kept (k ∷ ks) a c m s =
    elim (cases_Bool (eqb k.number a.chunk)) [
      | inl e ↦ let mark = rw e at m in let size = rw e at s in rw e (ap (λ n. n + held_words ks) (heap.object_words_in-put k.cells a.offset c (ap₂ held_size mark size)))
      | inr e ↦ let mark = rw e at m in let size = rw e at s in rw e (ap (λ n. object_words_in k.cells + n) (words_kept ks a c mark size))
    ]

sums_kept : (f : ℕ → ℕ) (ks : List ChunkValue) (a : Addr) (c : Cell) → c.mark ≡ (cell_of ks a).mark → size_of c ≡ size_of (cell_of ks a) → sum_of f (put_object ks a c) ≡ sum_of f ks
sums_kept f [] a c m s = refl
sums_kept f (k ∷ ks) a c m s =
    elim (cases_Bool (eqb k.number a.chunk)) [
      | inl e ↦ let mark = rw e at m in let size = rw e at s in rw e (ap (λ n. n + sum_of f ks) (heap.sum_in-put f k.cells a.offset c (λ n. ap (λ x. held_size x n) mark) size))
      | inr e ↦ let mark = rw e at m in let size = rw e at s in rw e (ap (λ n. sum_in f k.cells + n) (sums_kept f ks a c mark size))
    ]

pub writes_keep_counts : WritesKeepCounts
writes_keep_counts ks a c m s = record {
  chunks = length-put ks a c;
  shape = shapes ks a c s;
  words = words_kept ks a c m s;
  objects = sums_kept one_each ks a c m s;
  small = sums_kept small_part ks a c m s;
}
