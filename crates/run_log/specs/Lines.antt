-- The lines of a run in a log, entry by entry.
use Rattle.std.specs.Prelude.{ℕ, zero, suc, ◌+◌, ◌-◌, ◌*◌, Option, Some, None, List, [], ◌∷◌, ◌++◌, length, slice_get, if◌then◌else◌}
use Rattle.run_log.specs.Common.{ProgramText, TaskStatus, Running, Waiting, Ended, Joined, Task, MachineState, is_left, joins_in, Kind, Ran, EntryValue, Deed, act_of, deed_of, stepped, machine_after, Act, LogLine, StepDeed}
use Rattle.log_lines.specs.declared.line.Act.TheVariants as acts
use Rattle.log_lines.specs.declared.line.LogLine.TheVariants as lines
use Rattle.run_log.specs.Acts.{act_of_deed}

-- WHAT A STEP DOES

abbrev pub act_line : Option Act → List LogLine
act_line None = []
act_line (Some act) = lines.Act act ∷ []

abbrev pub deed_lines : MachineState → ℕ → Option Deed → List LogLine
deed_lines m line None = []
deed_lines m line (Some deed) = act_line (act_of_deed m line deed)

-- WHAT IT MAKES OF TASKS

-- a fork is four turns in a log: both children are spawned, the left one first, and joined in the same order. So after
-- so many joins of a task its strand has this number
abbrev pub strand_behind : ℕ → ℕ
strand_behind joins = 4 * joins

-- where a task has joined its children, of which this is the left one: its joins stand before the strand that it is on now
abbrev pub join_lines : MachineState → ℕ → Option ℕ → List LogLine
join_lines m left None = []
join_lines m left (Some parent) =
    lines.Strand parent (strand_behind (joins_in m.tasks parent) - 2) ∷ lines.Act (acts.Join left) ∷ lines.Act (acts.Join (left + 1)) ∷ []

-- the left one of a task and its sibling
abbrev pub left_of : ℕ → ℕ
left_of t = if is_left t then t else t - 1

-- what a step made of the task t that took it, before which so many tasks were made: it goes on, has forked, has ended,
-- or has ended and joined its parent with its sibling
abbrev pub turn_lines : ℕ → MachineState → ℕ → Option ℕ → TaskStatus → List LogLine
turn_lines made m t parent Running = []
turn_lines made m t parent Waiting = lines.Act (acts.Spawn made) ∷ lines.Act (acts.Spawn (made + 1)) ∷ []
turn_lines made m t parent (Ended k n) = lines.Act acts.Finish ∷ []
turn_lines made m t parent Joined = lines.Act acts.Finish ∷ join_lines m (left_of t) parent

abbrev pub moved_lines : ℕ → MachineState → ℕ → Option Task → List LogLine
moved_lines made m t None = []
moved_lines made m t (Some x) = turn_lines made m t x.parent x.status

-- STEPS

-- a step that led to this state
abbrev pub lines_of_deed : ℕ → MachineState → ℕ → Option StepDeed → List LogLine
lines_of_deed made m t None = []
lines_of_deed made m t (Some s) = deed_lines m s.line s.deed ++ moved_lines made m t (slice_get m.tasks t)

-- the next step of a task, if it can take one
abbrev pub step_lines : ProgramText → MachineState → ℕ → List LogLine
step_lines p m t = lines_of_deed (length m.tasks) (stepped p m t 1) t (deed_of (act_of p m t))

-- so many steps of a task
abbrev pub steps_lines : ProgramText → MachineState → ℕ → ℕ → List LogLine
steps_lines p m t zero = []
steps_lines p m t (suc k) = steps_lines p m t k ++ step_lines p (stepped p m t k) t

-- ENTRIES

-- so many steps of a task begin on its strand; each is a unit of work
abbrev pub strand_lines : MachineState → ℕ → ℕ → List LogLine
strand_lines m t k = lines.Strand t (strand_behind (joins_in m.tasks t)) ∷ lines.Act (acts.Work k) ∷ []

abbrev pub entry_lines : ProgramText → MachineState → Kind → List LogLine
entry_lines p m (Ran t k) = strand_lines m t k ++ steps_lines p m t k
entry_lines p m _ = []

abbrev pub lines_from : ProgramText → MachineState → List EntryValue → List LogLine
lines_from p m [] = []
lines_from p m (e ∷ es) = entry_lines p m e.kind ++ lines_from p (machine_after p m e.kind) es
