use Rattle.log_races.proofs.Common.{◌≡◌, length, take, events_of_pieces, stretch_count, HasScanned, run_order, touches_from}
use Rattle.log_races.proofs.strands.scan_walk.Given as goal

abbrev pub invariant-loop-serial : goal.invariant-loop-serial
invariant-loop-serial l = record {
  size : length l.scan.cells ≡ stretch_count l.numbers;
  seen : HasScanned (run_order l.walk) l.numbers (touches_from (events_of_pieces l.pieces.texts l.pieces.pieces) l.tasks 0 (take l.serial l.walk.order)) l.scan;
}
