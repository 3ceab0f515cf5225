use Rattle.std.proofs.Common.{◌≡◌, Some, slice_get, sym, ◌∙◌}
use Rattle.heap_tree.proofs.TreeLemmas.{entry_state}
use Rattle.heap_tree.proofs.tree.Tree.state.Goals as goal

pub returns : goal.returns
returns c =
    let got : slice_get c.self.inside.entries c.args.t ≡ Some c.in_ok-entry.entry = sym c.get.ensures ∙ c.in_ok-entry.was in
    entry_state c.args.self.now c.self.inside.entries c.self.view_is c.args.t c.in_ok-entry.entry got
