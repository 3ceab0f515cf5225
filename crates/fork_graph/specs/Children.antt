-- How each task stands with its parent, at some turn.
use Rattle.std.specs.Prelude.{◌≡◌, ◌⊎◌, ◌<◌, ◌==◌, ℕ, zero, suc, Bool, true, false, Option, Some, None, List, [], ◌∷◌, length, slice_get, slice_set, replicate, if◌then◌else◌}
use Rattle.fork_graph.specs.declared.graph.GraphTurn.{GraphTurn}
use Rattle.fork_graph.specs.declared.graph.GraphTurn.TheVariants.{Spawn, Join}
use Rattle.fork_graph.specs.declared.graph.GraphStrand.{GraphStrand}
use Rattle.fork_graph.specs.declared.children.ChildState.{ChildState}
use Rattle.fork_graph.specs.declared.children.ChildState.TheVariants.{Unspawned, Open, Joined}
use Rattle.fork_graph.specs.Graph.{TaskTurns, strand, Does, IsEarlier}
use Rattle.fork_graph.specs.Faults.{IsSpawnedBefore}

-- at the start nothing is spawned but the root, which is never joined
abbrev pub none_spawned : ℕ → List ChildState
none_spawned zero = []
none_spawned (suc n) = Joined ∷ replicate n Unspawned

-- where the state allows it, the task spawns the child
abbrev pub spawned_from : List ChildState → ℕ → ℕ → Option ChildState → Option (List ChildState)
spawned_from states t c (Some Unspawned) = Some (slice_set states c (Open t))
spawned_from states t c (Some (Open p)) = None
spawned_from states t c (Some Joined) = None
spawned_from states t c None = None

-- where the state allows it, the task joins the child
abbrev pub joined_from : List ChildState → ℕ → ℕ → Option ChildState → Option (List ChildState)
joined_from states t c (Some Unspawned) = None
joined_from states t c (Some (Open p)) = if p == t then Some (slice_set states c Joined) else None
joined_from states t c (Some Joined) = None
joined_from states t c None = None

-- the states after a task's turn, if that is allowed
abbrev pub after_turn : List ChildState → ℕ → GraphTurn → Option (List ChildState)
after_turn states t (Spawn c) = spawned_from states t c (slice_get states c)
after_turn states t (Join c) = joined_from states t c (slice_get states c)

-- the turn was taken, or isn't allowed
abbrev pub IsTaken : List ChildState → ℕ → GraphTurn → Bool → List ChildState → Type 0
IsTaken before t turn true after = after_turn before t turn ≡ Some after
IsTaken before t turn false after = (after_turn before t turn ≡ None) × (after ≡ before)

-- the child is spawned and not joined
abbrev pub is_open : Option ChildState → Bool
is_open (Some (Open p)) = true
is_open (Some Unspawned) = false
is_open (Some Joined) = false
is_open None = false

-- the turn spawned a child that is open
abbrev pub spawns_open : List ChildState → GraphTurn → Bool
spawns_open states (Spawn c) = is_open (slice_get states c)
spawns_open states (Join c) = false

-- the task c as it stands when strand u ends
abbrev pub HasState : TaskTurns → GraphStrand → ℕ → ChildState → Type 0
HasState tasks u c Unspawned = (0 < c) × (IsSpawnedBefore tasks u c → ⊥)
HasState tasks u c (Open p) =
    ((j : ℕ) × Does tasks p j (Spawn c) × IsEarlier (strand p j) u) × ((k : ℕ) → Does tasks p k (Join c) → IsEarlier (strand p k) u → ⊥)
HasState tasks u c Joined =
    (c ≡ 0) ⊎ ((p j k : ℕ) × Does tasks p j (Spawn c) × IsEarlier (strand p j) u × Does tasks p k (Join c) × IsEarlier (strand p k) u)

pub record AreStates (tasks : TaskTurns) (n : ℕ) (u : GraphStrand) (states : List ChildState) : Type 0 where
  pub size : length states ≡ n
  pub each : (c : ℕ) (state : ChildState) → slice_get states c ≡ Some state → HasState tasks u c state
