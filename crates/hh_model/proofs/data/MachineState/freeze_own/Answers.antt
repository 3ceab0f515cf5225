use Rattle.hh_model.proofs.Common.{slice_get, Freeze}
use Rattle.hh_model.proofs.Acts.{as_found}
use Rattle.hh_model.proofs.data.MachineState.freeze_own.Goals as goal

pub returns : goal.returns
returns c =
    as_found c.args.self.now c.freeze_found.new.self c.args.t c.args.line (slice_get c.args.self.now.tasks c.args.t) (Freeze c.args.object) _
    c.own_object-found.ensures.freeze c.freeze_found.ensures
