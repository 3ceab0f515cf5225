use Rattle.std.proofs.Common.{◌≡◌, sum, take}
use Rattle.run_span.proofs.work.total_work.Given as goal

abbrev pub invariant-loop-weight : goal.invariant-loop-weight
invariant-loop-weight l = l.done ≡ sum (take l.weight-index l.weights)
