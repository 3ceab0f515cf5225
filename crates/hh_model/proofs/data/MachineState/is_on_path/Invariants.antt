use Rattle.hh_model.proofs.Common.{◌≡◌, ◌-◌, is_on_path, path_by, parents}
use Rattle.hh_model.proofs.data.MachineState.is_on_path.Given as goal

abbrev pub invariant-loop : goal.invariant-loop
invariant-loop l = is_on_path l.self.tasks l.above l.task ≡ path_by (parents l.self.tasks) (l.task - l.counter) l.above l.at
