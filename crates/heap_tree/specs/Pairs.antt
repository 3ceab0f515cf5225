-- Children are made in pairs: the sibling of a child is known by its number.
use Rattle.std.specs.Prelude.{◌≡◌, ℕ, ◌%◌, ◌<◌, List, length}
pub use Rattle.hh_model.specs.Step.{is_left, sibling}
use Rattle.heap_tree.specs.TaskNode.{TaskNode, parent_of}

-- each child has the same parent as its sibling
pub record SiblingsShareParents (nodes : List TaskNode) : Type 0 where
  pub odd : length nodes % 2 ≡ 1
  pub shared : (t : ℕ) → t < length nodes → (t ≡ 0 → ⊥) → parent_of nodes (sibling t) ≡ parent_of nodes t
