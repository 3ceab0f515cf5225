use Rattle.log_strands.proofs.Common.{◌≡◌, ℕ, Option, Some, length, slice_get, LogPiece, IsPlaceOf}
use Rattle.log_strands.proofs.places.piece_places.Given as goal

abbrev pub invariant-loop-piece : goal.invariant-loop-piece
invariant-loop-piece l = record {
  count : length l.places ≡ l.piece-index;
  each : (k : ℕ) (p : LogPiece) (place : Option ℕ) → slice_get l.pieces k ≡ Some p → slice_get l.places k ≡ Some place → IsPlaceOf l.fn.log l.fn.order p.strand place;
}
