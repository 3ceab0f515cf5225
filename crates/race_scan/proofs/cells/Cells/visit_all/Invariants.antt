use Rattle.race_scan.proofs.Common.{◌≡◌, fold, length, take, visited}
use Rattle.race_scan.proofs.cells.Cells.visit_all.Given as goal

abbrev pub invariant-loop-slot : goal.invariant-loop-slot
invariant-loop-slot g l = record {
  seen : l.self ≡ fold (visited (g.S.Strands.order l.order) l.block l.access) l.initial.self (take l.slot-index l.slots);
  size : length l.self.cells ≡ length l.initial.self.cells;
}
