use Rattle.gc_pacer.proofs.Common.{ap, sym, subst, ◌∙◌, WorkerPartFits, SharedValue, Pacer}
use Rattle.gc_pacer.proofs.calls.PacedEntryCalls.reserve.Goals as goal

pub returns-clause-fit : goal.returns-clause-fit
returns-clause-fit c = λ k p F. c.reserve.ensures.fit k p (subst (λ (z : SharedValue). WorkerPartFits z k p) (sym (ap (λ (z : Pacer). z.counted) c.get_mut.ensures.value ∙ c.self.view_is)) F)
