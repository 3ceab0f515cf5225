use Rattle.hh_model.proofs.Common.{◌≡◌, ◌-◌, owner_of, owner_by, parents, joined}
use Rattle.hh_model.proofs.data.MachineState.owner.Given as goal

abbrev pub invariant-loop : goal.invariant-loop
invariant-loop l = owner_of l.self.tasks l.task ≡ owner_by (parents l.self.tasks) (joined l.self.tasks) (l.task - l.counter) l.at
