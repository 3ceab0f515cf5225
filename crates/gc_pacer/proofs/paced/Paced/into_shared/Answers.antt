use Rattle.gc_pacer.proofs.Common.{◌≡◌, true, ap, subst, sym, ◌∙◌, is_paced, SharedValue, Pacer}
use Rattle.gc_pacer.proofs.paced.Paced.into_shared.Goals as goal

pub returns-clause-paced : goal.returns-clause-paced
returns-clause-paced c = subst (λ (w : SharedValue). is_paced w.program w.settings w.journal.items ≡ true) (sym (c.into_counted.ensures ∙ ap (λ (z : Pacer). z.counted) c.into_inner.ensures)) c.self.invariant.paced
