use Rattle.log_births.proofs.Common.{◌≡◌, List, length, take, GraphStrand, events_of_pieces, LogTasks, ArePiecePlaces, KnowAll}
use Rattle.log_births.proofs.lines.lifetimes_of.Given as goal

abbrev pub invariant-loop-at : goal.invariant-loop-at
invariant-loop-at l = record {
  number : l.line ≡ length (events_of_pieces l.texts (take l.at l.pieces));
  known : (tasks : LogTasks) (order : List GraphStrand) → ArePiecePlaces tasks order l.pieces l.places → KnowAll tasks order (events_of_pieces l.texts l.pieces) l.line l.lines;
}
