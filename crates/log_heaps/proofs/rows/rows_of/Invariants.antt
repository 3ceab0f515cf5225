use Rattle.log_heaps.proofs.Common.{ℕ, Bool, List, HeapDepth, BlockBirth, AreThose, IsDepthRow, HasSums, IsBelow}
use Rattle.log_heaps.proofs.rows.rows_of.Given as goal

abbrev pub invariant-loop-depth : goal.invariant-loop-depth
invariant-loop-depth l = (births : List BlockBirth) (own : ℕ → Bool) → HasSums births own l.sums
    → AreThose (λ (row : HeapDepth). row.depth) (IsBelow (λ (row : HeapDepth). row.depth) (IsDepthRow births own) l.depth) l.rows
