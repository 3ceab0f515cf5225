-- The graph of a log.
use Rattle.std.specs.Prelude.{◌≡◌, ◌<◌, ◌≤◌, ℕ, Option, Some, None, List, [], length, map, slice_get, nat_le, if◌then◌else◌}
use Rattle.log_tasks.specs.Common.{Act, GraphTurn, GraphStrand, Extent, Whole, Cut, AreSmall, tasks_in, strand, IsNested, completed, SpawnsBelow, Event, acts_on}
use Rattle.log_tasks.specs.declared.ending.StrandEnd.{StrandEnd}
use Rattle.log_tasks.specs.declared.ending.StrandEnd.TheVariants.{Turns, Finishes}
use Rattle.log_tasks.specs.declared.tasks.LogTasks.{LogTasks}
use Rattle.log_tasks.specs.Ends.{end_of}
use Rattle.log_tasks.specs.Numbers.{log_strand, renumbered}

-- TURNS

-- the turn that ends a strand, of tasks numbered without gaps
abbrev pub turn_at : List ℕ → Option StrandEnd → Option GraphTurn
turn_at numbers None = None
turn_at numbers (Some Finishes) = None
turn_at numbers (Some (Turns turn)) = Some (renumbered numbers turn)

-- the turns of a task, up to the first strand that doesn't end in one
abbrev pub IsRow : List Event → List ℕ → ℕ → List GraphTurn → Type 0
IsRow events numbers t row = (i : ℕ) → i ≤ length row → slice_get row i ≡ turn_at numbers (end_of events (log_strand numbers (strand t i)))

-- the turns that the log tells of each task
pub record AreRows (events : List Event) (numbers : List ℕ) (rows : List (List GraphTurn)) : Type 0 where
  pub count : length rows ≡ length numbers
  pub each : (t : ℕ) → t < length numbers → IsRow events numbers t (tasks_in rows t)

-- THE GRAPH

-- in a cut log each task joins at its end what it hasn't joined
abbrev pub graph_of : Extent → List (List GraphTurn) → List (List GraphTurn)
graph_of Whole rows = rows
graph_of Cut rows = map completed rows

-- the tasks make a nested run
pub record AreNestedTasks (turns : List (List GraphTurn)) : Type 0 where
  pub small : AreSmall turns
  pub some : 0 < length turns
  pub nested : IsNested (tasks_in turns)
  pub below : SpawnsBelow (tasks_in turns) (length turns)

-- STRANDS

abbrev pub known_of : LogTasks → ℕ → Option ℕ
known_of log t = slice_get log.known t

abbrev pub acts_if_known : Option ℕ → List Event → List ℕ → GraphStrand → List Act
acts_if_known None events numbers u = []
acts_if_known (Some known) events numbers u = if nat_le u.index known then acts_on events (log_strand numbers u) else []

-- what a strand of the graph does: nothing, if the log doesn't tell how its task came to it
abbrev pub acts_in_graph : List Event → LogTasks → GraphStrand → List Act
acts_in_graph events log u = acts_if_known (known_of log u.task) events log.numbers u
