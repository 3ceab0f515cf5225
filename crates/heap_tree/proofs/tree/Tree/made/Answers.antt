use Rattle.heap_tree.proofs.Common.{IsTree, subst}
use Rattle.heap_tree.proofs.TreeLemmas.{tree_seen}
use Rattle.heap_tree.proofs.tree.Tree.made.Goals as goal

pub returns-clause-tree : goal.returns-clause-tree
returns-clause-tree c = subst IsTree c.self.view_is (tree_seen c.self.inside.entries c.self.invariant)
