use Rattle.log_tasks.specs.EndCauses.{NoneEndsBelow}
use Rattle.log_tasks.proofs.fault.first_end_fault.Given as goal

abbrev pub invariant-loop-task : goal.invariant-loop-task
invariant-loop-task l = NoneEndsBelow l.told l.numbers l.rows l.task
