use Rattle.hh_model.proofs.Common.{slice_get, Puti}
use Rattle.hh_model.proofs.Acts.{as_found}
use Rattle.hh_model.proofs.data.MachineState.put_int.Goals as goal

pub returns : goal.returns
returns c =
    as_found c.args.self.now c.put_int_found.new.self c.args.t c.args.line (slice_get c.args.self.now.tasks c.args.t) (Puti c.args.object c.args.index c.args.value) _
    (c.int_place-found.ensures.put c.args.value) c.put_int_found.ensures
