use Rattle.log_heaps.proofs.Common.{◌≡◌, ◌<◌, ◌≤◌, ◌^◌, ℕ, Some, slice_get, BlockBirth}
use Rattle.log_heaps.proofs.rows.depth_below.Given as goal

abbrev pub invariant-loop-birth : goal.invariant-loop-birth
invariant-loop-birth l = record {
  above : (k : ℕ) (birth : BlockBirth) → k < l.birth-index → slice_get l.births k ≡ Some birth → birth.depth < l.deepest;
  small : l.deepest ≤ 2 ^ 32;
}
