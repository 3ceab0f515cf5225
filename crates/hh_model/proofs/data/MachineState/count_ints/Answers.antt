use Rattle.hh_model.proofs.Common.{slice_get, Cnti}
use Rattle.hh_model.proofs.Acts.{as_found}
use Rattle.hh_model.proofs.data.MachineState.count_ints.Goals as goal

pub returns : goal.returns
returns c =
    as_found c.args.self.now c.set_found.new.self c.args.t c.args.line (slice_get c.args.self.now.tasks c.args.t) (Cnti c.args.target c.args.object) _
    (c.int_count-found.ensures c.args.target) c.set_found.ensures
