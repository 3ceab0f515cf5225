use Rattle.hh_model.proofs.Common.{slice_get, Putr}
use Rattle.hh_model.proofs.Acts.{as_found}
use Rattle.hh_model.proofs.data.MachineState.put_reference.Goals as goal

pub returns : goal.returns
returns c =
    as_found c.args.self.now c.put_reference_found.new.self c.args.t c.args.line (slice_get c.args.self.now.tasks c.args.t) (Putr c.args.object c.args.index c.args.value) _
    (c.reference_place-found.ensures.put c.args.value) c.put_reference_found.ensures
