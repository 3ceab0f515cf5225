use Rattle.hh_model.proofs.Common.{◌<◌, sym, ◌∙◌, ne_eqb, arith, parents}
use Rattle.hh_model.proofs.Climbs.{path_up}
use Rattle.hh_model.proofs.data.MachineState.is_on_path.Goals as goal

pub loop-preserved : goal.loop-preserved
loop-preserved c =
    let lt : c.loop.counter < c.args.task = omega arith in
    c.loop.invariant
    ∙ path_up (parents c.args.self.now.tasks) c.args.task c.loop.counter c.args.above c.loop.at c.in-Some.parent lt
    (ne_eqb c.args.above c.loop.at (λ e. c.if-at-above.false (sym e))) (sym c.in-Some.ensures)
