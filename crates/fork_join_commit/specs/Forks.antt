-- An entry of a part's fresh steps and a fork.
use Rattle.std.specs.Prelude.{◌≡◌, ◌≢◌, ◌≤◌, ℕ, ◌+◌, Bool, true, false, Option, Some, None, List, [], length, option_map, slice_get}
use Rattle.fork_join_commit.specs.Common.{Par, Line, ProgramText, Task, fetched, private_limit, task_steps, view_below, with_next, SetOf, Content, content_at, Child, new_child, Private, keeping, ParkedTask, Calls, SharedValue, accounts, rest_at, OthersFit, Enters, alone_entry, machine_after}
pub use Rattle.step_commit.specs.below.task_machine.{is_fork, is_par}

-- ---- WHEN IT COMES

abbrev pub is_fork_by : ProgramText → Option Task → Bool
is_fork_by p None = false
is_fork_by p (Some x) = is_fork (fetched p x.top)

-- the part's next step is a fork, and fits in one entry with its fresh ones
pub record IsAtFork (w : SharedValue) (p : Private) : Type 0 where
  pub forks : is_fork_by w.program (slice_get (machine_after w p).tasks p.task) ≡ true
  pub few : p.fresh ≤ private_limit

-- the functions that its children begin, and its line in the text
pub record ForksTo (w : SharedValue) (p : Private) (left right number : ℕ) : Type 0 where
  pub task : Task
  pub line : Line
  pub is : slice_get (task_steps w.program (accounts w) p.task p.fresh).machine.tasks p.task ≡ Some task
  pub next : fetched w.program task.top ≡ Some line
  pub number_is : line.number ≡ number
  pub by : line.instr ≡ Par left right

-- ---- THE RESULT OF A CALL

-- the task waits for two children, whose numbers are the next two, and the run goes on
pub record ForksOn (w after : SharedValue) (k : ℕ) (p : Private) (left right : ℕ) : Type 0 where
  pub enters : Enters w after (alone_entry k p)
  pub left_is : left ≡ length (accounts w).machine.tasks
  pub right_is : right ≡ length (accounts w).machine.tasks + 1
  pub goes : (accounts after).end ≡ None
  pub others : OthersFit w after k

-- ---- SLOTS AND SETS

-- the parked state of a task that has forked, and of a child before its first step
abbrev pub waiting_rest : Private → ParkedTask
waiting_rest p = record { work = Calls (with_next p.frames (p.frames.top.next + 1)); heap = p.heap; view = p.view; allocations = p.allocations }

abbrev pub begun_rest : Child → ParkedTask
begun_rest c = record { work = Calls c.frames; heap = c.heap; view = c.view; allocations = 0 }

-- a child of the part's task, with this number: it begins a function with the registers of the part's top frame, and
-- sees what is immutable in the part's heap, and what the part sees
abbrev pub part_child : Private → ℕ → ℕ → ℕ → ℕ → Child
part_child p task fun slots spare = new_child task p.frames fun (view_below p.heap.chunks (Some p.view)) slots spare

-- the task of the part is parked again, and there are two more slots
pub record RestsFork (rests after : List (Option ParkedTask)) (p : Private) (left right : ℕ) : Type 0 where
  pub count : length after ≡ length rests + 2
  pub parent : rest_at after p.task ≡ Some (waiting_rest p)
  pub left_slot : (slots : ℕ) × (spare : ℕ) × (rest_at after (length rests) ≡ Some (begun_rest (part_child p (length rests) left slots spare)))
  pub right_slot : (slots : ℕ) × (spare : ℕ) × (rest_at after (length rests + 1) ≡ Some (begun_rest (part_child p (length rests + 1) right slots spare)))
  pub others : (u : ℕ) → u ≢ p.task → u ≢ length rests → u ≢ length rests + 1 → rest_at after u ≡ rest_at rests u

abbrev pub nothing_noted : Content
nothing_noted = record { sources = []; kept = []; keeps = false }

-- the set of a task keeps references from now on, and there are two more sets
pub record SetsFork (sets after : List SetOf) (t : ℕ) : Type 0 where
  pub count : length after ≡ length sets + 2
  pub parent : content_at after t ≡ option_map (keeping true) (content_at sets t)
  pub left_set : content_at after (length sets) ≡ Some nothing_noted
  pub right_set : content_at after (length sets + 1) ≡ Some nothing_noted
  pub others : (u : ℕ) → u ≢ t → u ≢ length sets → u ≢ length sets + 1 → content_at after u ≡ content_at sets u
