use Rattle.hh_model.proofs.Common.{slice_get, Cntr}
use Rattle.hh_model.proofs.Acts.{as_found}
use Rattle.hh_model.proofs.data.MachineState.count_references.Goals as goal

pub returns : goal.returns
returns c =
    as_found c.args.self.now c.set_found.new.self c.args.t c.args.line (slice_get c.args.self.now.tasks c.args.t) (Cntr c.args.target c.args.object) _
    (c.reference_count-found.ensures c.args.target) c.set_found.ensures
