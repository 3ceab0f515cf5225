use Rattle.worker_run.proofs.Common.{subst, sym, Private, AtSome, HasGrown, MayRun, SharedValue}
use Rattle.worker_run.proofs.local.run_part.Goals as goal

pub take_steps-requires-clause-may : goal.take_steps-requires-clause-may
take_steps-requires-clause-may g c κs within = subst (λ (q : Private). AtSome c.args.program.now (λ (w : SharedValue). MayRun w c.args.worker q)) (sym c.get_mut.ensures.value) c.requires

pub returns-in-Ok : goal.returns-in-Ok
returns-in-Ok g c = subst (λ (q : Private). HasGrown c.args.program.now c.args.worker q c.take_steps.new.part c.in-Ok.why) c.get_mut.ensures.value c.in-Ok.ensures
