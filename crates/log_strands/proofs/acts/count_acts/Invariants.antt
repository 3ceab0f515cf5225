use Rattle.log_strands.proofs.Common.{◌≡◌, length, take, events_of_pieces}
use Rattle.log_strands.proofs.acts.count_acts.Given as goal

abbrev pub invariant-loop-piece : goal.invariant-loop-piece
invariant-loop-piece l = l.count ≡ length (events_of_pieces l.texts (take l.piece-index l.pieces))
