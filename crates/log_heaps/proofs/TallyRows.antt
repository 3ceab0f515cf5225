-- The rows that are told of a tally.
use Rattle.log_heaps.proofs.Common.{◌≡◌, ℕ, Bool, List, length, sym, subst, not, HeapDepth, BlockBirth, DepthSums, Tally, AreThose, IsDepthRow, HasSums, AreAbove, is_shared, IsBelow}
use Rattle.log_heaps.proofs.DepthRows.{all_rows}

pub rows_told : (tally : Tally) (births : List BlockBirth) (listed sums : List DepthSums) (rows : List HeapDepth) → births ≡ tally.births → sums ≡ listed → HasSums births (λ b. not (is_shared tally.shared b)) listed → AreAbove births (length listed)
    → ((births' : List BlockBirth) (own : ℕ → Bool) → HasSums births' own sums → AreThose (λ (row : HeapDepth). row.depth) (IsBelow (λ (row : HeapDepth). row.depth) (IsDepthRow births' own) (length sums)) rows)
    → AreThose (λ (row : HeapDepth). row.depth) (IsDepthRow tally.births (λ b. not (is_shared tally.shared b))) rows
rows_told tally births listed sums rows is same has above all =
    subst (λ (bs : List BlockBirth). AreThose (λ (row : HeapDepth). row.depth) (IsDepthRow bs (λ b. not (is_shared tally.shared b))) rows) is
    (all_rows births (λ b. not (is_shared tally.shared b)) (length sums) rows (subst (λ (xs : List DepthSums). AreAbove births (length xs)) (sym same) above)
    (all births (λ b. not (is_shared tally.shared b)) (subst (HasSums births (λ b. not (is_shared tally.shared b))) (sym same) has)))
