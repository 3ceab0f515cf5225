use Rattle.hh_model.proofs.Common.{slice_get, Geti}
use Rattle.hh_model.proofs.Acts.{as_found}
use Rattle.hh_model.proofs.data.MachineState.read_int.Goals as goal

pub returns : goal.returns
returns c =
    as_found c.args.self.now c.set_found.new.self c.args.t c.args.line (slice_get c.args.self.now.tasks c.args.t) (Geti c.args.target c.args.object c.args.index) _
    (c.int_field-found.ensures c.args.target) c.set_found.ensures
