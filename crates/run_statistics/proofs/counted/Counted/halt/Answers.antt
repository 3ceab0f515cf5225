use Rattle.run_statistics.proofs.Common.{sym, subst, WorkerPartFits, SharedValue}
use Rattle.run_statistics.proofs.counted.Counted.halt.Goals as goal

pub returns-clause-fits : goal.returns-clause-fits
returns-clause-fits c = λ k p F. c.halt.ensures.fits k p (subst (λ (z : SharedValue). WorkerPartFits z k p) (sym c.self.view_is) F)
