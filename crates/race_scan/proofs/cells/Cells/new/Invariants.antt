use Rattle.race_scan.proofs.Common.{◌≡◌, ◌≤◌, Some, replicate, vec_capacity, no_stacks}
use Rattle.race_scan.proofs.cells.Cells.new.Given as goal

abbrev pub invariant-loop : goal.invariant-loop
invariant-loop l = record {
  cells : l.cells.items ≡ replicate l.counter (Some no_stacks);
  room : l.count ≤ vec_capacity l.cells;
}
