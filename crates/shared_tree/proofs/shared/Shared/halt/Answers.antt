use Rattle.shared_tree.proofs.Common.{sym, subst, SharedValue, WorkerPartFits, halted_fit, the_view}
use Rattle.shared_tree.proofs.shared.Shared.halt.Goals as goal

pub returns-clause-fits : goal.returns-clause-fits
returns-clause-fits c = λ k p F. halted_fit (the_view c.self.inside) k p (subst (λ (z : SharedValue). WorkerPartFits z k p) (sym c.self.view_is) F)
