use Rattle.log_tasks.specs.Told.{AreFirstRows}
use Rattle.log_tasks.proofs.rows.rows_of.Given as goal

abbrev pub invariant-loop-task : goal.invariant-loop-task
invariant-loop-task l = AreFirstRows l.told l.numbers l.task-index l.rows
