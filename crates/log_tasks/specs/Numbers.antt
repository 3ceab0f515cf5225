-- Tasks numbered from 0 on without gaps, in the order of the numbers that a log gives them.
use Rattle.std.specs.Prelude.{◌==◌, ◌||◌, ℕ, Bool, List, length, get_or, nat_lt, ◌↔◌, IsTrue, if◌then◌else◌}
use Rattle.std.specs.List.{position_or_len, list_any}
use Rattle.std.specs.List.Sorted.{IsStrictlyIncreasing}
use Rattle.log_tasks.specs.Common.{In, GraphTurn, Spawn, Join, GraphStrand, strand, Event, spawns}

-- the event is one of the task's, or spawns it
abbrev pub tells : ℕ → Event → Bool
tells t e = (e.strand.task == t) || spawns t e.act

-- the root is a task, and each number that does something or is spawned
abbrev pub is_task : List Event → ℕ → Bool
is_task events t = (t == 0) || list_any (tells t) events

-- the log's numbers of all tasks, in ascending order
pub record AreNumbers (events : List Event) (numbers : List ℕ) : Type 0 where
  pub ascending : IsStrictlyIncreasing numbers
  pub are : (t : ℕ) → In numbers t ↔ IsTrue (is_task events t)

-- the log's number of a task
abbrev pub told_number : List ℕ → ℕ → ℕ
told_number numbers t = get_or numbers t 0

-- the strand as the log has it
abbrev pub log_strand : List ℕ → GraphStrand → GraphStrand
log_strand numbers u = strand (told_number numbers u.task) u.index

abbrev pub place_or_root : List ℕ → ℕ → ℕ
place_or_root numbers place = if nat_lt place (length numbers) then place else 0

-- the task that has a number in the log; a number that no task has stands for the root, which isn't joined either
abbrev pub task_of : List ℕ → ℕ → ℕ
task_of numbers n = place_or_root numbers (position_or_len (λ m. m == n) numbers)

abbrev pub renumbered : List ℕ → GraphTurn → GraphTurn
renumbered numbers (Spawn n) = Spawn (task_of numbers n)
renumbered numbers (Join n) = Join (task_of numbers n)
