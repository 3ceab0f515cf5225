use Rattle.worker_run.proofs.Common.{◌-◌, ◌+◌, ◌≤◌, arith, subst, sym, private_limit, Private, HasGrown, few_then, fits_some, grows}
use Rattle.worker_run.proofs.local.take_steps.Goals as goal

pub run_local-requires-clause-fits : goal.run_local-requires-clause-fits
run_local-requires-clause-fits g c κs within = fits_some c.args.program.now c.args.worker c.args.part.now c.requires.may

pub run_local-requires-clause-few : goal.run_local-requires-clause-few
run_local-requires-clause-few g c κs within = few_then c.args.program.now c.args.worker c.args.part.now c.requires.may (private_limit - c.args.part.now.fresh) (omega arith)

pub returns : goal.returns
returns g c =
    let new = c.run_local.new.part in
    let few = c.requires.may.2.few in
    let n = new.fresh - c.args.part.now.fresh in
    let most : c.args.part.now.fresh + n ≤ private_limit = (let a = c.run_local.ensures.ran.within in let b = c.run_local.ensures.ran.more in omega (arith, a, b, few)) in
    subst (λ (q : Private). HasGrown c.args.program.now c.args.worker c.args.part.now q c.in_ok-why.why) (sym c.settle_before_fork.ensures)
    (grows c.args.program.now c.args.worker c.args.part.now c.requires.may new n c.run_local.ensures.ran.runs c.run_local.ensures.ran.accounts c.run_local.ensures.ran.rest most c.in_ok-why.why c.in_ok-why.ensures.paused
    (λ is. (let e = c.in_ok-why.ensures.spent is in omega (arith, e, few))))
