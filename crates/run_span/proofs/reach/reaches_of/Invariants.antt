use Rattle.run_span.proofs.Common.{length, tasks_in}
use Rattle.run_span.proofs.Reaching.{IsReaching}
use Rattle.run_span.proofs.reach.reaches_of.Given as goal

abbrev pub invariant-loop-place : goal.invariant-loop-place
invariant-loop-place l = IsReaching (tasks_in l.tasks) (length l.tasks) l.order l.weights l.place l.reaches
