-- Sums of births by depth, as far as the deepest.
use Rattle.std.specs.Prelude.{◌≡◌, ◌==◌, ◌≤◌, ◌<◌, ◌+◌, ◌^◌, ℕ, Bool, Option, Some, None, List, length, slice_get, if◌then◌else◌}
use Rattle.log_report.specs.declared.heaps.HeapDepth.{HeapDepth}
use Rattle.log_heaps.specs.declared.births.BlockBirth.{BlockBirth}
use Rattle.log_heaps.specs.declared.rows.DepthSums.{DepthSums}
use Rattle.log_heaps.specs.declared.error.HeapsError.{HeapsError}
use Rattle.log_heaps.specs.declared.error.HeapsError.TheVariants.{TooLong, TooManyWords, NoMemory}
use Rattle.log_heaps.specs.Rows.{blocks_at, words_at, own_at}

-- the sums with one birth more
abbrev pub added : DepthSums → BlockBirth → Bool → DepthSums
added sums birth own = record { blocks = sums.blocks + 1; words = sums.words + birth.words; own = sums.own + (if own then birth.words else 0) }

abbrev pub sums_at : List BlockBirth → (ℕ → Bool) → ℕ → DepthSums
sums_at births own depth = record { blocks = blocks_at depth births; words = words_at depth births; own = own_at depth own births }

-- the row on a depth, if blocks are born there
abbrev pub row_if : ℕ → DepthSums → Option HeapDepth
row_if depth sums = if sums.blocks == 0 then None else Some (record { depth = depth; blocks = sums.blocks; words = sums.words; own = sums.own })

-- the sums of each depth
abbrev pub HasSums : List BlockBirth → (ℕ → Bool) → List DepthSums → Type 0
HasSums births own sums = (depth : ℕ) → depth < length sums → slice_get sums depth ≡ Some (sums_at births own depth)

-- all births are above a depth
abbrev pub AreAbove : List BlockBirth → ℕ → Type 0
AreAbove births depth = (k : ℕ) (birth : BlockBirth) → slice_get births k ≡ Some birth → birth.depth < depth

-- the words of a depth don't fit in 64 bits
abbrev pub IsTooManyAt : List BlockBirth → HeapsError → Type 0
IsTooManyAt births TooLong = ⊥
IsTooManyAt births TooManyWords = (depth : ℕ) × (2 ^ 64 ≤ words_at depth births)
IsTooManyAt births NoMemory = Unit {0}
