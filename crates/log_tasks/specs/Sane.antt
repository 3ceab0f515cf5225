-- What holds of the events of a log without a faulty line.
use Rattle.std.specs.Prelude.{◌≡◌, ◌<◌, ◌+◌, ℕ, true, false, Some, List, [], ◌∷◌, ◌++◌}
use Rattle.log_tasks.specs.Common.{strand_limit, GraphTurn, Event, spawns, is_spawned}
use Rattle.log_tasks.specs.declared.ending.StrandEnd.TheVariants.{Turns}
use Rattle.log_tasks.specs.Ends.{end_by}

-- behind a turn the next strand's number is within the limit
abbrev pub TurnsWithin : Event → Type 0
TurnsWithin e = (turn : GraphTurn) → end_by e.act ≡ Some (Turns turn) → e.strand.index + 1 < strand_limit

abbrev pub EventsAreWithin : List Event → Type 0
EventsAreWithin [] = Unit {0}
EventsAreWithin (e ∷ rest) = TurnsWithin e × EventsAreWithin rest

-- after what happened before, no task is spawned that was spawned already, nor is the root
abbrev pub SpawnsOnce : List Event → List Event → Type 0
SpawnsOnce before [] = Unit {0}
SpawnsOnce before (e ∷ rest) = ((c : ℕ) → spawns c e.act ≡ true → is_spawned before c ≡ false) × SpawnsOnce (before ++ e ∷ []) rest

pub record AreSane (events : List Event) : Type 0 where
  pub within : EventsAreWithin events
  pub once : SpawnsOnce [] events
