-- What a part and its worker have after its leaf collection has begun.
use Rattle.std.specs.Prelude.{◌≡◌, All, List, Some, length, map, vec_len}
use Rattle.core_invariant.specs.Common.{Addr, small_words, number_of, IsSoundReference, HaveDistinctNumbers, IsFresh, with_places, ToChunks, AreNew, HasReservedLists, as_reference, Private}
use Rattle.core_invariant.specs.Due.{take_by}

-- the part records the roots and the numbers of the new chunks; these are empty, as many as the collection takes, and
-- none is in the heap; all else that copying needs is reserved
pub record CopyingHasBegun (old new : Private) (roots : List Addr) (to : ToChunks) : Type 0 where
  pub part : new ≡ record old { heap = with_places old.heap new.heap.slots new.heap.spare; begun = Some (record { roots = roots; news = map number_of to.chunks.items }) }
  pub sound : All (IsSoundReference old.heap.chunks) (map as_reference roots)
  pub apart : HaveDistinctNumbers to.chunks.items
  pub fresh : All (λ k. IsFresh old.heap.chunks k.number) to.chunks.items
  pub empty : AreNew to.chunks.items
  pub count : length to.chunks.items ≡ take_by (small_words old.heap.chunks)
  pub reserved : HasReservedLists new.heap (vec_len to.chunks) to
