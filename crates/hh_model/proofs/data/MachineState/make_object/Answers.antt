use Rattle.hh_model.proofs.Common.{slice_get, on_ok_weaker, Newm}
use Rattle.hh_model.proofs.Acts.{as_found}
use Rattle.hh_model.proofs.data.MachineState.make_object.Goals as goal

pub returns-clause-ok : goal.returns-clause-ok
returns-clause-ok c =
    on_ok_weaker c.make_found.result
    (as_found c.args.self.now c.make_found.new.self c.args.t c.args.line (slice_get c.args.self.now.tasks c.args.t) (Newm c.args.target c.args.refs c.args.ints) _
    (c.new_counts-found.ensures c.args.target))
    c.make_found.ensures.ok
