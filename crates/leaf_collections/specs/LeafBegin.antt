-- The order in which a leaf collection takes its chunks.
use Rattle.std.specs.Prelude.{List, reverse}
use Rattle.std.specs.List.Sorted.{IsNonDecreasingBy}
use Rattle.core_invariant.specs.below.object_layout.{ChunkValue}

-- from the last of these chunks to the first, numbers don't fall
abbrev pub AreFalling : List ChunkValue → Type 0
AreFalling ks = IsNonDecreasingBy (λ k. k.number) (reverse ks)
