use Rattle.shared_tree.proofs.Common.{length, ap, ◌∙◌, SharedValue, accounts, tree_long, the_view}
use Rattle.shared_tree.proofs.shared.Shared.tasks.Goals as goal

pub returns : goal.returns
returns c =
    let w : SharedValue = the_view c.self.inside in
    c.made.ensures.count ∙ (tree_long w c.self.invariant ∙ ap (λ (z : SharedValue). length (accounts z).machine.tasks) c.self.view_is)
