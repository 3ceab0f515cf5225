use Rattle.gc_pacer.proofs.Common.{ap, sym, subst, ◌∙◌, WorkerPartFits, SharedValue, Pacer}
use Rattle.gc_pacer.proofs.calls.PacedEntryCalls.halt.Goals as goal

pub returns-clause-fits : goal.returns-clause-fits
returns-clause-fits c = λ k p F. c.halt.ensures.fits k p (subst (λ (z : SharedValue). WorkerPartFits z k p) (sym (ap (λ (z : Pacer). z.counted) c.get_mut.ensures.value ∙ c.self.view_is)) F)
