use Rattle.log_tasks.proofs.Common.{◌≡◌, ◌<◌, ℕ, length, slice_get, turn_told}
use Rattle.log_tasks.proofs.rows.row_of.Given as goal

abbrev pub invariant-loop-index : goal.invariant-loop-index
invariant-loop-index l = record {
  count : length l.row ≡ l.index;
  so_far : (i : ℕ) → i < l.index → slice_get l.row i ≡ turn_told l.told l.numbers l.task i;
}
