use Rattle.shared_tree.proofs.Common.{is_some, ap, ◌∙◌, SharedValue, accounts, end_now, the_view}
use Rattle.shared_tree.proofs.shared.Shared.has_ended.Goals as goal

pub returns : goal.returns
returns c = c.is_some.ensures ∙ ap is_some (end_now (the_view c.self.inside) c.self.invariant ∙ ap (λ (w : SharedValue). (accounts w).end) c.self.view_is)
