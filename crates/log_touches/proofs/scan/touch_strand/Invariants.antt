use Rattle.log_touches.proofs.Common.{◌≡◌, ◌<◌, ◌++◌, ℕ, List, IfSome, length, drop, events_of_pieces, Touch, HasScanned, regions_of_events, touches_on, next_on}
use Rattle.log_touches.proofs.Chains.{from_piece}
use Rattle.log_touches.proofs.Linking.{left_of}
use Rattle.log_touches.proofs.scan.touch_strand.Given as goal

abbrev pub invariant-loop-at : goal.invariant-loop-at
invariant-loop-at g l = record {
  size : length l.scan.cells ≡ length l.fn.scan.cells;
  there : IfSome l.at (λ i. i < length l.pieces.pieces);
  done : (k : ℕ) × (l.at ≡ next_on l.fn.strand k (drop k l.pieces.pieces))
      × ((ts : List Touch) × (ts ++ from_piece (regions_of_events (events_of_pieces l.pieces.texts l.pieces.pieces)) l.fn.strand l.serial l.pieces.texts l.pieces.pieces k ≡ touches_on (events_of_pieces l.pieces.texts l.pieces.pieces) l.fn.strand l.serial)
      × ((past : List Touch) → HasScanned (g.S.Strands.order l.order) l.numbers past l.fn.scan → HasScanned (g.S.Strands.order l.order) l.numbers (past ++ ts) l.scan));
}

abbrev pub decreases-loop-at : goal.decreases-loop-at
decreases-loop-at g l = left_of l.at (length l.pieces.pieces)
