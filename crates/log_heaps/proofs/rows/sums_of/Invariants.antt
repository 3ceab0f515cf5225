use Rattle.log_heaps.proofs.Common.{◌≤◌, ◌^◌, length, take, not, HasSums, AreAbove, is_shared}
use Rattle.log_heaps.proofs.rows.sums_of.Given as goal

abbrev pub invariant-loop-birth : goal.invariant-loop-birth
invariant-loop-birth l = record {
  above : AreAbove l.births (length l.sums);
  small : length l.sums ≤ 2 ^ 32;
  has : HasSums (take l.birth-index l.births) (λ b. not (is_shared l.shared b)) l.sums;
}
