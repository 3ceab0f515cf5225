-- Tasks, their strands, and the edges that lead from strand to strand.
use Rattle.std.specs.Prelude.{◌≡◌, ◌⊎◌, ◌+◌, ◌<◌, ◌≤◌, ◌^◌, ℕ, Some, List, [], length, get_or, slice_get}
use Rattle.walk_laws.specs.Reached.{IsReached}
use Rattle.fork_graph.specs.declared.graph.GraphTurn.{GraphTurn}
use Rattle.fork_graph.specs.declared.graph.GraphTurn.TheVariants.{Spawn, Join}
use Rattle.fork_graph.specs.declared.graph.GraphStrand.{GraphStrand}

-- the turns of each task, by the task's number; the root is task 0
abbrev pub TaskTurns : Type 0
TaskTurns = ℕ → List GraphTurn

-- those of a list; a task past its end takes no turn
abbrev pub tasks_in : List (List GraphTurn) → TaskTurns
tasks_in rows t = get_or rows t []

-- tasks and strands have numbers of 32 bits
pub record AreSmall (rows : List (List GraphTurn)) : Type 0 where
  pub tasks : length rows ≤ 2 ^ 32
  pub turns : (t : ℕ) → length (tasks_in rows t) < 2 ^ 32

abbrev pub strand : ℕ → ℕ → GraphStrand
strand t i = record { task = t; index = i }

abbrev pub first_of : ℕ → GraphStrand
first_of t = strand t 0

abbrev pub last_of : TaskTurns → ℕ → GraphStrand
last_of tasks t = strand t (length (tasks t))

-- the task has this strand
abbrev pub HasStrand : TaskTurns → GraphStrand → Type 0
HasStrand tasks u = u.index ≤ length (tasks u.task)

-- a strand of a task with a lower number, or one before it of its own
abbrev pub IsEarlier : GraphStrand → GraphStrand → Type 0
IsEarlier u v = (u.task < v.task) ⊎ ((u.task ≡ v.task) × (u.index < v.index))

-- turn number i of task t
abbrev pub Does : TaskTurns → ℕ → ℕ → GraphTurn → Type 0
Does tasks t i turn = slice_get (tasks t) i ≡ Some turn

-- EDGES

-- from a strand past its turn to the task's next strand
abbrev pub ContinuesTo : TaskTurns → GraphStrand → GraphStrand → Type 0
ContinuesTo tasks u v = (turn : GraphTurn) × Does tasks u.task u.index turn × (v ≡ strand u.task (u.index + 1))

-- from a strand that ends in a spawn to the child's first strand
abbrev pub Spawns : TaskTurns → GraphStrand → GraphStrand → Type 0
Spawns tasks u v = (c : ℕ) × Does tasks u.task u.index (Spawn c) × (v ≡ first_of c)

-- from a child's last strand to the one after its join
abbrev pub JoinsTo : TaskTurns → GraphStrand → GraphStrand → Type 0
JoinsTo tasks u v = (t i c : ℕ) × Does tasks t i (Join c) × (u ≡ last_of tasks c) × (v ≡ strand t (i + 1))

abbrev pub IsGraphEdge : TaskTurns → GraphStrand → GraphStrand → Type 0
IsGraphEdge tasks u v = ContinuesTo tasks u v ⊎ (Spawns tasks u v ⊎ JoinsTo tasks u v)

-- PRECEDENCE

-- a walk along edges leads from u to v
abbrev pub StrandPrecedes : TaskTurns → GraphStrand → GraphStrand → Type 0
StrandPrecedes tasks u v = IsReached (λ x. x ≡ u) (IsGraphEdge tasks) v

-- a walk leads to it from the root's first strand
abbrev pub IsAttached : TaskTurns → GraphStrand → Type 0
IsAttached tasks u = StrandPrecedes tasks (first_of 0) u

-- ANCESTORS

abbrev pub IsParent : TaskTurns → ℕ → ℕ → Type 0
IsParent tasks t c = (i : ℕ) × Does tasks t i (Spawn c)

-- the task itself, or one whose spawns lead to it
abbrev pub IsAncestor : TaskTurns → ℕ → ℕ → Type 0
IsAncestor tasks a t = IsReached (λ x. x ≡ a) (IsParent tasks) t
