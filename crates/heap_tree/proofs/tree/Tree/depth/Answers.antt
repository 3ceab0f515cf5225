use Rattle.std.proofs.Common.{◌≡◌, Some, slice_get}
use Rattle.heap_tree.proofs.TreeLemmas.{depth_answer}
use Rattle.heap_tree.proofs.tree.Tree.depth.Goals as goal

pub returns : goal.returns
returns c =
    let es = c.self.inside.entries in
    let got : slice_get es c.args.t ≡ Some c.entry_at.result = c.entry_at.ensures in
    depth_answer c.args.self.now es c.self.view_is c.self.invariant c.args.t c.entry_at.result c.requires got
