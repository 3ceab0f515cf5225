-- How an entry of steps changes the tree and the counts of the shared value, by its last step: x is the task before it,
-- line the line that it executes, m the accounts.
use Rattle.std.specs.Prelude.{◌≡◌, ℕ, suc, ◌+◌, ◌++◌, ◌∷◌, [], Some, None, length, option_map}
use Rattle.refinement.specs.Common.{Line, ProgramText, Done, Task, int_in, Ledger, Machine, TaskState, Ready, Waiting, Joined, TaskNode, LastKind, Private, Reading, Writing, Printing, Forking, Ending, Joining, Finishing, Halting, IsOfKind}
use Rattle.heap_tree.specs.declared.state.TaskState.TheVariants.{Ended}
use Rattle.refinement.specs.Whole.{TreeCounts}

-- THE TREE

abbrev pub node_then : TaskState → TaskNode → TaskNode
node_then s n = record n { state = s }

abbrev pub NodesStay : TreeCounts → TreeCounts → Type 0
NodesStay c c' = (u : ℕ) → c'.node u ≡ c.node u

-- the node of t has another state
pub record NodeGoes (c c' : TreeCounts) (t : ℕ) (s : TaskState) : Type 0 where
  pub node : c'.node t ≡ option_map (node_then s) (c.node t)
  pub others : (u : ℕ) → (u ≡ t → ⊥) → c'.node u ≡ c.node u

-- t waits for its children a and b, which are ready
pub record NodesFork (c c' : TreeCounts) (t a b : ℕ) : Type 0 where
  pub parent : c'.node t ≡ option_map (node_then Waiting) (c.node t)
  pub left : c'.node a ≡ Some (record { parent = Some t; state = Ready })
  pub right : c'.node b ≡ Some (record { parent = Some t; state = Ready })
  pub others : (u : ℕ) → (u ≡ t → ⊥) → (u ≡ a → ⊥) → (u ≡ b → ⊥) → c'.node u ≡ c.node u

-- p is ready again, and its children a and b have joined it
pub record NodesJoin (c c' : TreeCounts) (p a b : ℕ) : Type 0 where
  pub parent : c'.node p ≡ option_map (node_then Ready) (c.node p)
  pub left : c'.node a ≡ option_map (node_then Joined) (c.node a)
  pub right : c'.node b ≡ option_map (node_then Joined) (c.node b)
  pub others : (u : ℕ) → (u ≡ p → ⊥) → (u ≡ a → ⊥) → (u ≡ b → ⊥) → c'.node u ≡ c.node u

abbrev pub TreeGoes : (p : ProgramText) → TreeCounts → TreeCounts → (m l' : Ledger) → (t : ℕ) → (x : Task) → (line : Line) → (kind : LastKind) → IsOfKind p m l' t x line kind → Type 0
TreeGoes p c c' m l' t x line Private K = NodesStay c c'
TreeGoes p c c' m l' t x line Reading K = NodesStay c c'
TreeGoes p c c' m l' t x line Writing K = NodesStay c c'
TreeGoes p c c' m l' t x line Printing K = NodesStay c c'
TreeGoes p c c' m l' t x line Forking K = NodesFork c c' t (length m.machine.tasks) (length m.machine.tasks + 1)
TreeGoes p c c' m l' t x line Ending K = NodeGoes c c' t Ended
TreeGoes p c c' m l' t x line Joining K = NodesJoin c c' K.parent K.left (K.left + 1)
TreeGoes p c c' m l' t x line Finishing K = NodeGoes c c' t Ended
TreeGoes p c c' m l' t x line Halting K = NodesStay c c'

-- TASKS OF WORKERS: the worker w goes on with its task, or releases it

abbrev pub TasksOutStay : TreeCounts → TreeCounts → Type 0
TasksOutStay c c' = (u : ℕ) → c'.task_out u ≡ c.task_out u

pub record LetsGo (c c' : TreeCounts) (w : ℕ) : Type 0 where
  pub task_out : c'.task_out w ≡ None
  pub others : (u : ℕ) → (u ≡ w → ⊥) → c'.task_out u ≡ c.task_out u

abbrev pub TasksOutGo : TreeCounts → TreeCounts → ℕ → LastKind → Type 0
TasksOutGo c c' w Private = TasksOutStay c c'
TasksOutGo c c' w Reading = TasksOutStay c c'
TasksOutGo c c' w Writing = TasksOutStay c c'
TasksOutGo c c' w Printing = TasksOutStay c c'
TasksOutGo c c' w Forking = LetsGo c c' w
TasksOutGo c c' w Ending = LetsGo c c' w
TasksOutGo c c' w Joining = LetsGo c c' w
TasksOutGo c c' w Finishing = LetsGo c c' w
TasksOutGo c c' w Halting = TasksOutStay c c'

-- OUTPUTS AND THE END

abbrev pub OutputsGo : (p : ProgramText) → TreeCounts → TreeCounts → (m l' : Ledger) → (t : ℕ) → (x : Task) → (line : Line) → (kind : LastKind) → IsOfKind p m l' t x line kind → Type 0
OutputsGo p c c' m l' t x line Printing K = c'.outputs ≡ c.outputs ++ int_in x.top K.register ∷ []
OutputsGo p c c' m l' t x line _ K = c'.outputs ≡ c.outputs

abbrev pub EndGoes : (p : ProgramText) → TreeCounts → TreeCounts → (m l' : Ledger) → (t : ℕ) → (x : Task) → (line : Line) → (kind : LastKind) → IsOfKind p m l' t x line kind → Type 0
EndGoes p c c' m l' t x line Finishing K = c'.end ≡ Some (Machine Done)
EndGoes p c c' m l' t x line Halting K = c'.end ≡ Some (Machine K.end)
EndGoes p c c' m l' t x line _ K = c'.end ≡ c.end

-- THE WHOLE: k private steps of t and one more, by the worker w

pub record RanCounts (p : ProgramText) (c c' : TreeCounts) (m l' : Ledger) (t w k : ℕ) (x : Task) (line : Line) (kind : LastKind) (K : IsOfKind p m l' t x line kind) : Type 0 where
  pub tree : TreeGoes p c c' m l' t x line kind K
  pub task_out : TasksOutGo c c' w kind
  pub outputs : OutputsGo p c c' m l' t x line kind K
  pub end : EndGoes p c c' m l' t x line kind K
  pub used : c'.used ≡ c.used
  pub steps : c'.steps ≡ c.steps + suc k
