use Rattle.log_touches.proofs.Common.{◌≡◌, ◌≤◌, ◌++◌, length, take, drop, events_of_pieces, AreMarked, regions_of_events, firsts_from, most_acts}
use Rattle.log_touches.proofs.mark.mark_pieces.Given as goal

abbrev pub invariant-loop-piece : goal.invariant-loop-piece
invariant-loop-piece l = record {
  few : l.number ≤ most_acts;
  number : l.number ≡ length (events_of_pieces l.texts (take l.piece-index l.pieces));
  firsts : l.firsts ++ firsts_from l.texts l.number (drop l.piece-index l.pieces) ≡ firsts_from l.texts 0 l.pieces;
  marked : AreMarked (regions_of_events (events_of_pieces l.texts (take l.piece-index l.pieces))) l.places;
}
