-- What the tree stores beside what callers see: depths, and the far links.
use Rattle.std.specs.Prelude.{◌≡◌, ◌+◌, ◌<◌, ◌≤◌, ◌^◌, ℕ, Option, Some, None, List, length, slice_get}
use Rattle.jump_pointers.specs.Links.{AreLinked}
use Rattle.heap_tree.specs.declared.links.Linked.{Linked}
use Rattle.heap_tree.specs.TaskNode.{TaskNode}

-- what callers see of an entry
abbrev pub node_of : Linked → TaskNode
node_of e = record { parent = e.parent; state = e.state }

abbrev pub linked_parent : Option Linked → Option ℕ
linked_parent None = None
linked_parent (Some e) = e.parent

abbrev pub linked_depth : Option Linked → ℕ
linked_depth None = 0
linked_depth (Some e) = e.depth

abbrev pub linked_far : Option Linked → ℕ
linked_far None = 0
linked_far (Some e) = e.far

abbrev pub parent_at : List Linked → ℕ → Option ℕ
parent_at entries t = linked_parent (slice_get entries t)

abbrev pub depth_at : List Linked → ℕ → ℕ
depth_at entries t = linked_depth (slice_get entries t)

abbrev pub far_at : List Linked → ℕ → ℕ
far_at entries t = linked_far (slice_get entries t)

-- only task 0 has no parent, and the links are well formed
pub record IsLinked (entries : List Linked) : Type 0 where
  pub few : length entries ≤ 2 ^ 31 + 1
  pub rooted : 0 < length entries
  pub root : (t : ℕ) → t < length entries → parent_at entries t ≡ None → t ≡ 0
  pub links : AreLinked (length entries) (parent_at entries) (depth_at entries) (far_at entries)
