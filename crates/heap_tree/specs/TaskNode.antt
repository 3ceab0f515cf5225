-- The tree as callers see it: the tasks in order of their numbers.
use Rattle.std.specs.Prelude.{◌≡◌, ◌<◌, ℕ, Bool, Option, Some, None, List, [], ◌∷◌, ◌++◌, length, slice_get, slice_set, option_map}
use Rattle.heap_tree.specs.declared.state.TaskState.{TaskState}
use Rattle.heap_tree.specs.declared.state.TaskState.TheVariants.{Ready, Waiting}
use Rattle.heap_tree.specs.Walk.{depth_in, path_in}

-- a task: its parent and its state
pub record TaskNode : Type 0 where
  pub parent : Option ℕ
  pub state : TaskState

abbrev pub root_node : TaskNode
root_node = record { parent = None; state = Ready }

abbrev pub parent_in : Option TaskNode → Option ℕ
parent_in None = None
parent_in (Some n) = n.parent

-- a task's parent; none for the root and for tasks that don't exist
abbrev pub parent_of : List TaskNode → ℕ → Option ℕ
parent_of nodes t = parent_in (slice_get nodes t)

abbrev pub state_of : List TaskNode → ℕ → Option TaskState
state_of nodes t = option_map (λ n. n.state) (slice_get nodes t)

-- how many links lead from a task to the root
abbrev pub depth_of : List TaskNode → ℕ → ℕ
depth_of nodes t = depth_in (parent_of nodes) t

-- whether a is the task or an ancestor
abbrev pub node_on_path : List TaskNode → ℕ → ℕ → Bool
node_on_path nodes a t = path_in (parent_of nodes) a t

abbrev pub set_at : List TaskNode → ℕ → TaskState → Option TaskNode → List TaskNode
set_at nodes t state None = nodes
set_at nodes t state (Some n) = slice_set nodes t (record n { state = state })

-- one task in another state
abbrev pub with_state : List TaskNode → ℕ → TaskState → List TaskNode
with_state nodes t state = set_at nodes t state (slice_get nodes t)

abbrev pub child_of : ℕ → TaskNode
child_of t = record { parent = Some t; state = Ready }

-- the task waits, and has two more children, both ready
abbrev pub forked : List TaskNode → ℕ → List TaskNode
forked nodes t = with_state nodes t Waiting ++ child_of t ∷ child_of t ∷ []

-- only task 0 has no parent, and each parent was made before its children
pub record IsTree (nodes : List TaskNode) : Type 0 where
  pub rooted : 0 < length nodes
  pub root : (t : ℕ) → t < length nodes → parent_of nodes t ≡ None → t ≡ 0
  pub low : (t p : ℕ) → parent_of nodes t ≡ Some p → p < t
