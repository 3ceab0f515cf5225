-- What is known of strands and tasks, as pieces are read.
use Rattle.std.specs.Prelude.{◌≡◌, ◌<◌, ◌≤◌, ◌+◌, ◌==◌, ℕ, Bool, true, false, Option, Some, None, List, [], ◌∷◌, length, slice_get, get_or, nat_eq, max, is_some, if◌then◌else◌}
use Rattle.std.specs.HashMap.{get}
use Rattle.std.specs.List.{list_any}
use Rattle.log_tasks.specs.Common.{Act, strand_limit, GraphTurn, GraphStrand, strand, tasks_in, Event, is_pair, is_that}
use Rattle.log_tasks.specs.declared.ending.StrandEnd.{StrandEnd}
use Rattle.log_tasks.specs.declared.ending.StrandEnd.TheVariants.{Turns}
use Rattle.log_tasks.specs.declared.told.Told.{Told}
use Rattle.log_tasks.specs.Ends.{end_of, or_later}
use Rattle.log_tasks.specs.Numbers.{is_task}
use Rattle.log_tasks.specs.Rows.{turn_at}

-- acts are there
abbrev pub is_told : List Act → Bool
is_told [] = false
is_told (a ∷ rest) = true

-- STRANDS' NUMBERS

abbrev pub greater : Option ℕ → Option ℕ → Option ℕ
greater None j = j
greater (Some i) None = Some i
greater (Some i) (Some j) = Some (max i j)

-- the strand's number, if it is one of the task's
abbrev pub number_if : Bool → ℕ → Option ℕ
number_if true i = Some i
number_if false i = None

abbrev pub index_of : GraphStrand → ℕ → Option ℕ
index_of u t = number_if (u.task == t) u.index

-- the same of a strand that does something
abbrev pub index_if : Bool → GraphStrand → ℕ → Option ℕ
index_if true u t = index_of u t
index_if false u t = None

-- the greatest number of a strand of the task that does something
abbrev pub top_of : List Event → ℕ → Option ℕ
top_of [] t = None
top_of (e ∷ rest) t = greater (index_of e.strand t) (top_of rest t)

-- WHAT IS KNOWN

abbrev pub end_told : Told → ℕ → ℕ → Option StrandEnd
end_told told t i = get is_pair told.ends (t, i)

abbrev pub top_told : Told → ℕ → Option ℕ
top_told told t = get nat_eq told.tops t

abbrev pub task_told : Told → ℕ → Bool
task_told told t = list_any (λ m. m == t) told.tasks

-- a task of which a strand did something is there
abbrev pub NotesTasks : Told → Type 0
NotesTasks told = (t : ℕ) → is_some (top_told told t) ≡ true → task_told told t ≡ true

-- how the strand (t, i) ends, if u does so unless it did before
abbrev pub end_after : Told → GraphStrand → Option StrandEnd → ℕ → ℕ → Option StrandEnd
end_after told u later t i = if is_that u t i then or_later (end_told told t i) later else end_told told t i

-- all that happened is known
pub record KnowsEvents (told : Told) (events : List Event) : Type 0 where
  pub ends : (t i : ℕ) → end_told told t i ≡ end_of events (strand t i)
  pub tops : (t : ℕ) → top_told told t ≡ top_of events t
  pub tasks : (t : ℕ) → task_told told t ≡ is_task events t

-- ROWS

-- behind each turn the next strand's number is within the limit
abbrev pub HasSmallTurns : Told → Type 0
HasSmallTurns told = (t i : ℕ) (turn : GraphTurn) → end_told told t i ≡ Some (Turns turn) → i + 1 < strand_limit

-- the turns of the log's task n, by what is known
abbrev pub turn_told : Told → List ℕ → ℕ → ℕ → Option GraphTurn
turn_told told numbers n i = turn_at numbers (end_told told n i)

abbrev pub IsToldRow : Told → List ℕ → ℕ → List GraphTurn → Type 0
IsToldRow told numbers n row = (i : ℕ) → i ≤ length row → slice_get row i ≡ turn_told told numbers n i

-- of the first n tasks
pub record AreFirstRows (told : Told) (numbers : List ℕ) (n : ℕ) (rows : List (List GraphTurn)) : Type 0 where
  pub count : length rows ≡ n
  pub each : (t : ℕ) → t < n → IsToldRow told numbers (get_or numbers t 0) (tasks_in rows t)
  pub short : (t : ℕ) → length (tasks_in rows t) < strand_limit

abbrev pub AreToldRows : Told → List ℕ → List (List GraphTurn) → Type 0
AreToldRows told numbers rows = AreFirstRows told numbers (length numbers) rows
