-- What a change of state and a fork keep, and what they change.
use Rattle.std.specs.Prelude.{◌≡◌, ◌≢◌, ℕ, ◌+◌, ◌<◌, Option, Some, List, [], ◌∷◌, length}
use Rattle.heap_tree.specs.declared.state.TaskState.{TaskState}
use Rattle.heap_tree.specs.declared.state.TaskState.TheVariants.{Ready, Waiting}
use Rattle.heap_tree.specs.TaskNode.{TaskNode, forked, parent_of, root_node, state_of, with_state}
use Rattle.heap_tree.specs.Pairs.{SiblingsShareParents}

-- a change of state keeps the number of tasks, the parents, and the states of other tasks
pub record StateChanges (nodes : List TaskNode) (t : ℕ) (s : TaskState) : Type 0 where
  pub count : length (with_state nodes t s) ≡ length nodes
  pub parents : ◌≡◌ {A = ℕ → Option ℕ} (parent_of (with_state nodes t s)) (parent_of nodes)
  pub set : t < length nodes → state_of (with_state nodes t s) t ≡ Some s
  pub others : (u : ℕ) → u ≢ t → state_of (with_state nodes t s) u ≡ state_of nodes u

abbrev pub StatesChange : Type 0
StatesChange = (nodes : List TaskNode) (t : ℕ) (s : TaskState) → StateChanges nodes t s

-- a fork of an existing task: it waits, its two children come after all other tasks and are ready, and nothing else
-- changes
pub record ForkMakes (nodes : List TaskNode) (t : ℕ) : Type 0 where
  pub count : length (forked nodes t) ≡ length nodes + 2
  pub parents : (u : ℕ) → u < length nodes → parent_of (forked nodes t) u ≡ parent_of nodes u
  pub left_parent : parent_of (forked nodes t) (length nodes) ≡ Some t
  pub right_parent : parent_of (forked nodes t) (length nodes + 1) ≡ Some t
  pub waits : state_of (forked nodes t) t ≡ Some Waiting
  pub left_ready : state_of (forked nodes t) (length nodes) ≡ Some Ready
  pub right_ready : state_of (forked nodes t) (length nodes + 1) ≡ Some Ready
  pub others : (u : ℕ) → u < length nodes → u ≢ t → state_of (forked nodes t) u ≡ state_of nodes u

-- a tree of the root alone is paired, and forks and changes of state keep that
pub record PairsStay : Type 0 where
  pub first : SiblingsShareParents (root_node ∷ [])
  pub forks : (nodes : List TaskNode) (t : ℕ) → SiblingsShareParents nodes → SiblingsShareParents (forked nodes t)
  pub states : (nodes : List TaskNode) (t : ℕ) (s : TaskState) → SiblingsShareParents nodes → SiblingsShareParents (with_state nodes t s)
