-- The entries of the root and of the pairs of children, as the tree stores them.
use Rattle.std.specs.Prelude.{Bool, if◌then◌else◌, Some, None, List, [], ◌∷◌, true, false}
use Rattle.heap_tree.specs.declared.state.TaskState.{TaskState}
use Rattle.heap_tree.specs.declared.links.Linked.{Linked}
use Rattle.heap_tree.specs.declared.entries.Pair.{Pair}

abbrev pub root_entry : TaskState → Linked
root_entry s = record { parent = None; depth = 0; far = 0; state = s }

-- the entry of the left or of the right child
abbrev pub child_entry : Pair → Bool → Linked
child_entry p left = record { parent = Some p.parent; depth = p.depth; far = p.far; state = if left then p.left else p.right }

-- one of the two in another state
abbrev pub with_child : Pair → Bool → TaskState → Pair
with_child p left s = if left then record p { left = s } else record p { right = s }

abbrev pub unpaired : List Pair → List Linked
unpaired [] = []
unpaired (p ∷ ps) = child_entry p true ∷ (child_entry p false ∷ unpaired ps)

abbrev pub entries_of : TaskState → List Pair → List Linked
entries_of s ps = root_entry s ∷ unpaired ps
