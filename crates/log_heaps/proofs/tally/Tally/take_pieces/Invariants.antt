use Rattle.log_heaps.proofs.Common.{◌≡◌, length, take, events_of_pieces, LogTasks, ArePiecePlaces, IsScene, HasFew, AreTallied}
use Rattle.log_heaps.proofs.tally.Tally.take_pieces.Given as goal

abbrev pub invariant-loop-at : goal.invariant-loop-at
invariant-loop-at l = record {
  number : l.line ≡ length (events_of_pieces l.texts (take l.at l.pieces));
  few : HasFew l.self l.line;
  tallied : (tasks : LogTasks) → IsScene tasks (events_of_pieces l.texts l.pieces) l.walk l.lines → ArePiecePlaces tasks l.walk.order l.pieces l.places → AreTallied (events_of_pieces l.texts l.pieces) tasks 0 l.fn.self
      → AreTallied (events_of_pieces l.texts l.pieces) tasks l.line l.self;
}
