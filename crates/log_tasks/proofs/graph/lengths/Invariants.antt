use Rattle.std.proofs.Common.{◌≡◌, map, length, take}
use Rattle.log_tasks.proofs.graph.lengths.Given as goal

abbrev pub invariant-loop-row : goal.invariant-loop-row
invariant-loop-row l = l.known ≡ map length (take l.row-index l.row-items)
