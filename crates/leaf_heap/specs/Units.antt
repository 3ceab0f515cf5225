-- How many units of 1,024 words chunks have.
use Rattle.std.specs.Prelude.{ℕ, ◌+◌, ◌-◌, ◌^◌, List, [], ◌∷◌, min}
use Rattle.object_layout.specs.ChunkValue.{ChunkValue}
use Rattle.leaf_heap.specs.LeafHeapValue.{units}

abbrev pub unit_count : List ChunkValue → ℕ
unit_count [] = 0
unit_count (k ∷ ks) = units k.size + unit_count ks

-- a number, saturating at 32 bits
abbrev pub counted32 : ℕ → ℕ
counted32 n = min n (2 ^ 32 - 1)
