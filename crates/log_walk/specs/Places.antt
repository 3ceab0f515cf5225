-- The places of each task's strands in an order.
use Rattle.std.specs.Prelude.{◌≡◌, ◌==◌, ◌-◌, ◌<◌, ℕ, Option, Some, None, List, length, slice_get, slice_set, if◌then◌else◌}
use Rattle.log_walk.specs.Common.{GraphTurn, Spawn, Join, GraphStrand, TaskTurns}
use Rattle.log_walk.specs.declared.places.Mark.{Mark}
use Rattle.log_walk.specs.declared.places.Mark.TheVariants.{First, Last, Joined}

abbrev pub joined_by : Option GraphTurn → Option ℕ
joined_by None = None
joined_by (Some (Spawn c)) = None
joined_by (Some (Join c)) = Some c

-- the task, if it has no further turn
abbrev pub ended_by : ℕ → Option GraphTurn → Option ℕ
ended_by t None = Some t
ended_by t (Some turn) = None

-- the child that the turn before a strand joins
abbrev pub joined_before : TaskTurns → GraphStrand → Option ℕ
joined_before tasks u = if u.index == 0 then None else joined_by (slice_get (tasks u.task) (u.index - 1))

-- the task for which the strand has the mark
abbrev pub mark_of : TaskTurns → Mark → GraphStrand → Option ℕ
mark_of tasks First u = if u.index == 0 then Some u.task else None
mark_of tasks Last u = ended_by u.task (slice_get (tasks u.task) u.index)
mark_of tasks Joined u = joined_before tasks u

abbrev pub child_noted : List ℕ → ℕ → Option ℕ → List ℕ
child_noted places place None = places
child_noted places place (Some t) = slice_set places t place

-- one strand of the order at most has the mark for a task
abbrev pub AreMarkedOnce : TaskTurns → List GraphStrand → Mark → Type 0
AreMarkedOnce tasks order mark =
    (i j t : ℕ) (u v : GraphStrand) → slice_get order i ≡ Some u → slice_get order j ≡ Some v
    → mark_of tasks mark u ≡ Some t → mark_of tasks mark v ≡ Some t → i ≡ j

-- for each of n tasks the place of the strand that has the mark for it, if it is among so many first ones
pub record AreMarkPlaces (tasks : TaskTurns) (n : ℕ) (order : List GraphStrand) (mark : Mark) (count : ℕ) (places : List ℕ) : Type 0 where
  pub size : length places ≡ n
  pub at : (i t : ℕ) (u : GraphStrand) → i < count → slice_get order i ≡ Some u → mark_of tasks mark u ≡ Some t → t < n → slice_get places t ≡ Some i
