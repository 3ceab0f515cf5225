use Rattle.log_touches.proofs.Common.{◌≡◌, ◌≤◌, ◌+◌, ℕ, Some, length, drop, slice_get, get, strand, LogPiece, is_pair, next_on}
use Rattle.log_touches.proofs.pieces.links_of.Given as goal

abbrev pub invariant-loop-place : goal.invariant-loop-place
invariant-loop-place l = record {
  within : l.place ≤ length l.pieces;
  heads : (t i : ℕ) → get is_pair l.heads (t, i) ≡ next_on (strand t i) l.place (drop l.place l.pieces);
  size : length l.nexts ≡ length l.pieces;
  nexts : (k : ℕ) (p : LogPiece) → l.place ≤ k → slice_get l.pieces k ≡ Some p → slice_get l.nexts k ≡ Some (next_on p.strand (k + 1) (drop (k + 1) l.pieces));
}

abbrev pub decreases-loop-place : goal.decreases-loop-place
decreases-loop-place l = l.place
