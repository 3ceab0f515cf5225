-- The serial order: tasks walked depth first, each where it is spawned.
use Rattle.std.specs.Prelude.{◌≡◌, ◌+◌, ◌<◌, ◌≤◌, ℕ, zero, suc, Some, List, [], ◌∷◌, ◌++◌, slice_get}
use Rattle.ancestor_laws.specs.Common.{IsWalk, GraphTurn, Spawn, Join, GraphStrand, TaskTurns, strand, Does, StrandPrecedes, IsAttached, IsParent, IsForkJoin, IsNested}

-- the strands of task t from number i on, where these turns are left, and after each that spawns those of the child
abbrev pub serial_rest : (ℕ → List GraphStrand) → ℕ → ℕ → List GraphTurn → List GraphStrand
serial_rest child t i [] = strand t i ∷ []
serial_rest child t i (Spawn c ∷ rest) = strand t i ∷ (child c ++ serial_rest child t (i + 1) rest)
serial_rest child t i (Join c ∷ rest) = strand t i ∷ serial_rest child t (i + 1) rest

-- the strands of a task and of all below it, on so many levels
abbrev pub serial_in : TaskTurns → ℕ → ℕ → List GraphStrand
serial_in tasks zero t = []
serial_in tasks (suc levels) t = serial_rest (serial_in tasks levels) t 0 (tasks t)

-- the strands of the root and of all below it, on so many levels
abbrev pub serial_order : TaskTurns → ℕ → List GraphStrand
serial_order tasks levels = serial_in tasks levels 0

-- there are tasks on no more than so many levels
abbrev pub AreLevels : TaskTurns → ℕ → Type 0
AreLevels tasks levels = (t : ℕ) → IsWalk (λ x. x ≡ 0) (IsParent tasks) levels t → ⊥

-- the order has each attached strand once, and none before what precedes it
pub record IsSerialOrder (tasks : TaskTurns) (order : List GraphStrand) : Type 0 where
  pub attached : (i : ℕ) (u : GraphStrand) → slice_get order i ≡ Some u → IsAttached tasks u
  pub all : (u : GraphStrand) → IsAttached tasks u → (i : ℕ) × (slice_get order i ≡ Some u)
  pub once : (i j : ℕ) (u : GraphStrand) → slice_get order i ≡ Some u → slice_get order j ≡ Some u → i ≡ j
  pub extends : (i j : ℕ) (u v : GraphStrand) → slice_get order i ≡ Some u → slice_get order j ≡ Some v → StrandPrecedes tasks u v → i ≤ j

abbrev pub SerialOrderExtends : Type 0
SerialOrderExtends = (tasks : TaskTurns) (levels : ℕ) → IsNested tasks → AreLevels tasks levels → IsSerialOrder tasks (serial_order tasks levels)

-- there are no more levels than numbers of tasks
abbrev pub LevelsAreFew : Type 0
LevelsAreFew =
    (tasks : TaskTurns) (n : ℕ) → IsForkJoin tasks → 0 < n → ((t i c : ℕ) → Does tasks t i (Spawn c) → c < n) → AreLevels tasks n
