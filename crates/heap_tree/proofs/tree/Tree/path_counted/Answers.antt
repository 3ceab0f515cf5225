use Rattle.std.proofs.Common.{◌+◌, ◌*◌, ◌≤◌, ℕ}
use Rattle.heap_tree.proofs.TreeLemmas.{cost_seen, path_within, path_up, path_there}
use Rattle.heap_tree.proofs.tree.Tree.path_counted.Goals as goal

pub climb-requires-clause-within : goal.climb-requires-clause-within
climb-requires-clause-within g c =
    (path_within c.args.self.now c.self.inside.entries c.self.view_is c.self.invariant c.args.t c.args.at_depth c.requires.made c.requires.within)

pub returns-clause-up : goal.returns-clause-up
returns-clause-up g c =
    let up = c.climb.ensures.up in
    path_up c.args.self.now c.self.inside.entries c.self.view_is c.self.invariant c.args.t c.args.at_depth c.climb.result c.requires.made up

pub returns-clause-there : goal.returns-clause-there
returns-clause-there g c =
    let made = c.climb.ensures.there in
    let there = c.climb.ensures.depth in
    path_there c.args.self.now c.self.inside.entries c.self.view_is c.self.invariant c.climb.result c.args.at_depth made there

pub returns-clause-cost : goal.returns-clause-cost
returns-clause-cost g c =
    let cost = c.climb.ensures.cost in
    cost_seen c.args.self.now c.self.inside.entries c.self.view_is c.self.invariant c.args.t c.requires.made (λ (log : ℕ). c.climb.new.count ≤ c.args.links.now + 3 * log) cost
