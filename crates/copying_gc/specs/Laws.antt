-- What a collection needs.
use Rattle.std.specs.Prelude.{◌≡◌, ◌+◌, ◌*◌, ◌≤◌, List, All, length}
use Rattle.copying_gc.specs.Common.{ChunkValue, object_count, small_part, sum_of, units, HaveDistinctNumbers, IsFresh, IsSettled}
use Rattle.copying_gc.specs.Survivors.{live_count}
use Rattle.copying_gc.specs.Laid.{AreNew, small_words}

-- these chunks are new, with distinct numbers, and enough for the heap
pub record CanTake (h : List ChunkValue) (news : List ChunkValue) : Type 0 where
  pub apart : HaveDistinctNumbers news
  pub fresh : All (λ k. IsFresh h k.number) news
  pub new : AreNew news
  pub enough : 2 * units (small_words h) ≤ length news + 1

-- in a heap between collections, what a collection needs is what the heap counts
abbrev pub NeedsAreCounted : Type 0
NeedsAreCounted =
    (ks : List ChunkValue) → IsSettled ks
    → (small_words ks ≡ sum_of small_part ks) × (live_count ks ≡ object_count ks)
