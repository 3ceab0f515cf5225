-- The search for the tasks that the root's spawns lead to.
use Rattle.std.specs.Prelude.{◌≡◌, ◌<◌, ℕ, Bool, true, false, Option, Some, None, List, [], ◌∷◌, ◌++◌, length, slice_get, slice_set, fold}
use Rattle.fork_graph.specs.declared.graph.GraphTurn.{GraphTurn}
use Rattle.fork_graph.specs.declared.graph.GraphTurn.TheVariants.{Spawn, Join}
use Rattle.fork_graph.specs.declared.reached.SpawnSearch.{SpawnSearch}
use Rattle.fork_graph.specs.Graph.{TaskTurns, IsAncestor}

-- a task that wasn't met is met, and waits
abbrev pub met_from : SpawnSearch → ℕ → Option Bool → SpawnSearch
met_from s c (Some false) = record { met = slice_set s.met c true; waiting = s.waiting ++ c ∷ [] }
met_from s c (Some true) = s
met_from s c None = s

abbrev pub meet : SpawnSearch → ℕ → SpawnSearch
meet s c = met_from s c (slice_get s.met c)

abbrev pub meet_child : SpawnSearch → GraphTurn → SpawnSearch
meet_child s (Spawn c) = meet s c
meet_child s (Join c) = s

abbrev pub meet_children : SpawnSearch → List GraphTurn → SpawnSearch
meet_children s turns = fold meet_child s turns

abbrev pub IsMet : List Bool → ℕ → Type 0
IsMet met t = slice_get met t ≡ Some true

-- a mark for each of n tasks that tells whether the root's spawns lead to it
pub record AreReached (tasks : TaskTurns) (n : ℕ) (met : List Bool) : Type 0 where
  pub size : length met ≡ n
  pub sound : (t : ℕ) → IsMet met t → IsAncestor tasks 0 t
  pub complete : (t : ℕ) → t < n → IsAncestor tasks 0 t → IsMet met t
