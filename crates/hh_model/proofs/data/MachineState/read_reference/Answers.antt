use Rattle.hh_model.proofs.Common.{slice_get, Getr}
use Rattle.hh_model.proofs.Acts.{as_found}
use Rattle.hh_model.proofs.data.MachineState.read_reference.Goals as goal

pub returns : goal.returns
returns c =
    as_found c.args.self.now c.read_found.new.self c.args.t c.args.line (slice_get c.args.self.now.tasks c.args.t) (Getr c.args.target c.args.object c.args.index) _
    (c.reference_field-found.ensures c.args.target) c.read_found.ensures
