-- What can be wrong with the tasks of a list.
use Rattle.std.specs.Prelude.{◌≡◌, ◌<◌, ℕ, List, length}
use Rattle.fork_graph.specs.declared.graph.GraphTurn.{GraphTurn}
use Rattle.fork_graph.specs.declared.graph.GraphTurn.TheVariants.{Spawn, Join}
use Rattle.fork_graph.specs.declared.graph.GraphStrand.{GraphStrand}
use Rattle.fork_graph.specs.declared.fault.Extent.{Extent}
use Rattle.fork_graph.specs.declared.fault.Extent.TheVariants.{Whole, Cut}
use Rattle.fork_graph.specs.declared.fault.StrandCause.{StrandCause}
use Rattle.fork_graph.specs.declared.fault.StrandCause.TheVariants.{SpawnsNoNewTask, JoinsNoOpenChild, LeavesUnjoined, IsUnreached}
use Rattle.fork_graph.specs.declared.fault.StrandFault.{StrandFault}
use Rattle.fork_graph.specs.Graph.{TaskTurns, tasks_in, strand, last_of, Does, IsEarlier, IsAncestor}
use Rattle.fork_graph.specs.Nested.{IsForkJoin, IsNested}

-- an earlier strand ends in a spawn of the task
abbrev pub IsSpawnedBefore : TaskTurns → GraphStrand → ℕ → Type 0
IsSpawnedBefore tasks u c = (s j : ℕ) × Does tasks s j (Spawn c) × IsEarlier (strand s j) u

-- one of n tasks, not the root, that no earlier strand spawned
pub record IsNew (tasks : TaskTurns) (n : ℕ) (u : GraphStrand) (c : ℕ) : Type 0 where
  pub not_root : 0 < c
  pub there : c < n
  pub unspawned : IsSpawnedBefore tasks u c → ⊥

-- a child that the task spawned before the strand's end, and hasn't joined
pub record IsOpen (tasks : TaskTurns) (u : GraphStrand) (c : ℕ) : Type 0 where
  pub spawned : (i : ℕ) × (i < u.index) × Does tasks u.task i (Spawn c)
  pub unjoined : (j : ℕ) → j < u.index → Does tasks u.task j (Join c) → ⊥

-- strand u of n tasks has this fault; what a task leaves and whether it is reached is asked of its last strand
abbrev pub IsFault : TaskTurns → ℕ → Extent → GraphStrand → StrandCause → Type 0
IsFault tasks n extent u SpawnsNoNewTask = (c : ℕ) × Does tasks u.task u.index (Spawn c) × (IsNew tasks n u c → ⊥)
IsFault tasks n extent u JoinsNoOpenChild = (c : ℕ) × Does tasks u.task u.index (Join c) × (IsOpen tasks u c → ⊥)
IsFault tasks n extent u LeavesUnjoined = (extent ≡ Whole) × (u ≡ last_of tasks u.task) × ((c : ℕ) × IsOpen tasks u c)
IsFault tasks n extent u IsUnreached = (extent ≡ Whole) × (u ≡ last_of tasks u.task) × (IsAncestor tasks 0 u.task → ⊥)

-- what is wrong with a turn that isn't allowed
abbrev pub cause_of_turn : GraphTurn → StrandCause
cause_of_turn (Spawn c) = SpawnsNoNewTask
cause_of_turn (Join c) = JoinsNoOpenChild

-- no earlier strand has a fault
abbrev pub HasNoEarlier : List (List GraphTurn) → Extent → GraphStrand → Type 0
HasNoEarlier rows extent v = (u : GraphStrand) (cause : StrandCause) → IsEarlier u v → IsFault (tasks_in rows) (length rows) extent u cause → ⊥

-- of the faults of the earliest strand that has one it's the first, by the order of the causes
pub record IsFirstFault (rows : List (List GraphTurn)) (extent : Extent) (fault : StrandFault) : Type 0 where
  pub there : fault.strand.task < length rows
  pub is_fault : IsFault (tasks_in rows) (length rows) extent fault.strand fault.cause
  pub no_earlier : HasNoEarlier rows extent fault.strand
  pub no_unjoined : fault.cause ≡ IsUnreached → IsFault (tasks_in rows) (length rows) extent fault.strand LeavesUnjoined → ⊥

-- tasks below n alone are spawned
abbrev pub SpawnsBelow : TaskTurns → ℕ → Type 0
SpawnsBelow tasks n = (t i c : ℕ) → Does tasks t i (Spawn c) → c < n

-- a whole run of n tasks: it is nested, and the root's spawns lead to each of them
pub record IsNestedRun (tasks : TaskTurns) (n : ℕ) : Type 0 where
  pub nested : IsNested tasks
  pub below : SpawnsBelow tasks n
  pub reached : (t : ℕ) → t < n → IsAncestor tasks 0 t

-- a cut run of n tasks: they join none but their own children
pub record IsCutOff (tasks : TaskTurns) (n : ℕ) : Type 0 where
  pub fork_join : IsForkJoin tasks
  pub below : SpawnsBelow tasks n

-- the list's tasks are a run, whole or cut off
abbrev pub IsSoundRun : List (List GraphTurn) → Extent → Type 0
IsSoundRun rows Whole = IsNestedRun (tasks_in rows) (length rows)
IsSoundRun rows Cut = IsCutOff (tasks_in rows) (length rows)

-- no strand of a run has a fault
abbrev pub SoundRunsHaveNoFault : Type 0
SoundRunsHaveNoFault =
    (rows : List (List GraphTurn)) (extent : Extent) → IsSoundRun rows extent
    → (u : GraphStrand) (cause : StrandCause) → u.task < length rows → IsFault (tasks_in rows) (length rows) extent u cause → ⊥
