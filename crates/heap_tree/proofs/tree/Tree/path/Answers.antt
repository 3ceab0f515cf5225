use Rattle.heap_tree.proofs.TreeLemmas.{path_within, path_up, path_there}
use Rattle.heap_tree.proofs.tree.Tree.path.Goals as goal

pub climb_to-requires-clause-within : goal.climb_to-requires-clause-within
climb_to-requires-clause-within c =
    (path_within c.args.self.now c.self.inside.entries c.self.view_is c.self.invariant c.args.t c.args.at_depth c.requires.made c.requires.within)

pub returns-clause-up : goal.returns-clause-up
returns-clause-up c =
    let up = c.climb_to.ensures.up in
    path_up c.args.self.now c.self.inside.entries c.self.view_is c.self.invariant c.args.t c.args.at_depth c.climb_to.result c.requires.made up

pub returns-clause-there : goal.returns-clause-there
returns-clause-there c =
    let made = c.climb_to.ensures.there in
    let there = c.climb_to.ensures.depth in
    path_there c.args.self.now c.self.inside.entries c.self.view_is c.self.invariant c.climb_to.result c.args.at_depth made there
