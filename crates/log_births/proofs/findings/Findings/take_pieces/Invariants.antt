use Rattle.log_births.proofs.Common.{◌≡◌, length, take, events_of_pieces, LogTasks, ArePiecePlaces, IsScene, AreFoundBelow}
use Rattle.log_births.proofs.findings.Findings.take_pieces.Given as goal

abbrev pub invariant-loop-at : goal.invariant-loop-at
invariant-loop-at l = record {
  number : l.line ≡ length (events_of_pieces l.texts (take l.at l.pieces));
  found : (tasks : LogTasks) → IsScene tasks (events_of_pieces l.texts l.pieces) l.walk l.lines → ArePiecePlaces tasks l.walk.order l.pieces l.places → AreFoundBelow (events_of_pieces l.texts l.pieces) tasks 0 l.fn.self
      → AreFoundBelow (events_of_pieces l.texts l.pieces) tasks l.line l.self;
}
