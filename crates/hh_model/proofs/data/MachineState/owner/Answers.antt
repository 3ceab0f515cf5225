use Rattle.hh_model.proofs.Common.{◌<◌, sym, ◌∙◌, arith, parents, joined}
use Rattle.hh_model.proofs.Climbs.{owner_up}
use Rattle.hh_model.proofs.data.MachineState.owner.Goals as goal

pub loop-preserved : goal.loop-preserved
loop-preserved c =
    let lt : c.loop.counter < c.args.task = omega arith in
    c.loop.invariant
    ∙ owner_up (parents c.args.self.now.tasks) (joined c.args.self.now.tasks) c.args.task c.loop.counter c.loop.at c.in-Some.parent lt
    (cc) (sym c.in-Some.ensures)
