use Rattle.log_tasks.proofs.Common.{◌≡◌, map, completed}
use Rattle.log_tasks.proofs.graph.all_completed.Given as goal

abbrev pub invariant-loop-row : goal.invariant-loop-row
invariant-loop-row l = l.turns ≡ map completed l.yielded
