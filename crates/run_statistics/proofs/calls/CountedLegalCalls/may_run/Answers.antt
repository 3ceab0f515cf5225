use Rattle.run_statistics.proofs.Common.{sym, subst, WorkerPartFits, FitsFirst, SharedValue}
use Rattle.run_statistics.proofs.calls.CountedLegalCalls.may_run.Goals as goal

pub may_run-requires-clause-fits : goal.may_run-requires-clause-fits
may_run-requires-clause-fits c = subst (λ (z : SharedValue). WorkerPartFits z c.args.worker c.args.part.now) (sym c.self.view_is) c.requires.fits

pub returns : goal.returns
returns c = subst (λ (z : SharedValue). FitsFirst z c.args.part.now) c.self.view_is c.may_run.ensures
