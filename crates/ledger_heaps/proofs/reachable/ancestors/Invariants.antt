use Rattle.ledger_heaps.proofs.Common.{◌≡◌, ◌-◌, ◌++◌, parents, ancestors, ancestors_by}
use Rattle.ledger_heaps.proofs.reachable.ancestors.Given as goal

abbrev pub invariant-loop : goal.invariant-loop
invariant-loop l = l.above ++ ancestors_by (parents l.machine.tasks) (l.t - l.counter) l.at ≡ ancestors l.machine.tasks l.t
