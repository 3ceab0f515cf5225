use Rattle.log_weights.proofs.Common.{take, events_of_pieces, KnowsWork}
use Rattle.log_weights.proofs.units.StrandWork.take_pieces.Given as goal

abbrev pub invariant-loop-piece : goal.invariant-loop-piece
invariant-loop-piece l = KnowsWork l.self (events_of_pieces l.texts (take l.piece-index l.pieces))
