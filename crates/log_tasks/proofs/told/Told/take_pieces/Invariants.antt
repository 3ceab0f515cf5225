use Rattle.log_tasks.proofs.Common.{take, events_of_pieces, KnowsEvents}
use Rattle.log_tasks.proofs.told.Told.take_pieces.Given as goal

abbrev pub invariant-loop-piece : goal.invariant-loop-piece
invariant-loop-piece l = KnowsEvents l.self (events_of_pieces l.texts (take l.piece-index l.pieces))
