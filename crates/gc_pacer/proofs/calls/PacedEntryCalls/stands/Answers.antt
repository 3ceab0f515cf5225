use Rattle.gc_pacer.proofs.Common.{◌≡◌, true, subst, is_paced, SharedValue}
use Rattle.gc_pacer.proofs.calls.PacedEntryCalls.stands.Goals as goal

pub returns-clause-paced : goal.returns-clause-paced
returns-clause-paced c = subst (λ (w : SharedValue). is_paced w.program w.settings w.journal.items ≡ true) c.self.view_is c.self.invariant.paced
