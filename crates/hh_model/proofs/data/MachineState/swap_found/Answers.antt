use Rattle.hh_model.proofs.data.MachineState.swap_found.Goals as goal

pub returns-in-Ok : goal.returns-in-Ok
returns-in-Ok c = rw c.in-Ok.is (c.swap_at.ensures c.args.line)
