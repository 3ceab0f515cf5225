use Rattle.log_weights.proofs.Common.{◌≡◌, ◌∙◌, ap, sym, arith, codes, acts_by, work_of, fitting}
use Rattle.log_weights.proofs.Fitting.{fits}
use Rattle.log_weights.proofs.sums.lettered_work.Goals as goal

pub returns : goal.returns
returns c =
    let none = ap work_of c.in_default.ensures.acts in
    let same : c.loop-act.work ≡ work_of (acts_by (codes "k") c.args.text.now) = omega (arith, none, c.loop-act.invariant.all) in
    sym (ap fitting (sym same) ∙ fits c.loop-act.work c.loop-act.invariant.fits)
