-- Births summed up by depth.
use Rattle.std.specs.Prelude.{ℕ, ◌==◌, Bool, List, sum_by, if◌then◌else◌}
use Rattle.log_report.specs.declared.heaps.HeapDepth.{HeapDepth}
use Rattle.log_heaps.specs.declared.births.BlockBirth.{BlockBirth}

-- what is so at a depth, and else 0
abbrev pub at_depth : ℕ → BlockBirth → ℕ → ℕ
at_depth depth birth n = if birth.depth == depth then n else 0

abbrev pub blocks_at : ℕ → List BlockBirth → ℕ
blocks_at depth births = sum_by (λ birth. at_depth depth birth 1) births

abbrev pub words_at : ℕ → List BlockBirth → ℕ
words_at depth births = sum_by (λ (birth : BlockBirth). at_depth depth birth birth.words) births

-- the words of a block, if it is one of these
abbrev pub words_if : (ℕ → Bool) → BlockBirth → ℕ
words_if own birth = if own birth.block then birth.words else 0

abbrev pub own_at : ℕ → (ℕ → Bool) → List BlockBirth → ℕ
own_at depth own births = sum_by (λ (birth : BlockBirth). at_depth depth birth (words_if own birth)) births

-- the row on a depth
abbrev pub depth_row : List BlockBirth → (ℕ → Bool) → ℕ → HeapDepth
depth_row births own depth = record { depth = depth; blocks = blocks_at depth births; words = words_at depth births; own = own_at depth own births }
