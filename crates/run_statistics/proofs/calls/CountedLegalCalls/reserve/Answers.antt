use Rattle.run_statistics.proofs.Common.{sym, subst, WorkerPartFits, SharedValue}
use Rattle.run_statistics.proofs.calls.CountedLegalCalls.reserve.Goals as goal

pub returns-clause-fit : goal.returns-clause-fit
returns-clause-fit c = λ k p F. c.reserve.ensures.fit k p (subst (λ (z : SharedValue). WorkerPartFits z k p) (sym c.self.view_is) F)
