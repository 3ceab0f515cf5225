-- Where the tasks stand that an entry moves, and what they hold.
use Rattle.std.specs.Prelude.{ℕ, ◌+◌, ◌-◌, ◌==◌, Bool, true, false, Option, Some, None, List, [], ◌∷◌, ◌++◌, slice_get, if◌then◌else◌, unwrap_or}
use Rattle.run_deltas.specs.Common.{line_number, ProgramText, line_at, Frame, TaskStatus, Running, Waiting, Ended, Joined, Task, MachineState, fetched, is_left}
use Rattle.run_deltas.specs.declared.data.Standing.{Standing}
use Rattle.run_deltas.specs.declared.data.Standing.TheVariants.{Ready, Out, Waits, HasEnded, HasJoined}
use Rattle.run_deltas.specs.declared.data.TaskNow.{TaskNow}
use Rattle.run_deltas.specs.declared.data.NewTask.{NewTask}
use Rattle.run_deltas.specs.Roots.{roots}

-- the line of a task by where it stands: of one that runs its next step's, of one that waits its fork's, which lies in
-- front of the next instruction, else none
abbrev pub line_for : ProgramText → Frame → TaskStatus → ℕ
line_for p f Running = line_number (fetched p f)
line_for p f Waiting = line_number (line_at p f.function (f.next - 1))
line_for p f (Ended k n) = 0
line_for p f Joined = 0

-- whether a task that runs is with a worker is told beside
abbrev pub standing_for : Bool → TaskStatus → Standing
standing_for out Running = if out then Out else Ready
standing_for out Waiting = Waits
standing_for out (Ended k n) = HasEnded
standing_for out Joined = HasJoined

abbrev pub now_of : ProgramText → ℕ → Bool → Option Task → List TaskNow
now_of p t out None = []
now_of p t out (Some x) = record { task = t; standing = standing_for out x.status; line = line_for p x.top x.status; holds = roots x } ∷ []

-- where a task stands, with a worker or not
abbrev pub now_out : ProgramText → MachineState → ℕ → List TaskNow
now_out p m t = now_of p t true (slice_get m.tasks t)

abbrev pub now_free : ProgramText → MachineState → ℕ → List TaskNow
now_free p m t = now_of p t false (slice_get m.tasks t)

-- the parent can go on whose children have joined it, the left one and the one after it
abbrev pub joined_now : ProgramText → MachineState → ℕ → Option ℕ → List TaskNow
joined_now p m left None = []
joined_now p m left (Some parent) = now_free p m parent ++ now_free p m left ++ now_free p m (left + 1)

-- where the tasks stand that steps of t moved, in front of which so many tasks were made: t itself; where it has forked
-- its children; where it and its sibling have joined these and their parent
abbrev pub moved_by : ProgramText → MachineState → ℕ → ℕ → Option ℕ → TaskStatus → List TaskNow
moved_by p m made t parent Running = now_out p m t
moved_by p m made t parent Waiting = now_free p m t ++ now_free p m made ++ now_free p m (made + 1)
moved_by p m made t parent (Ended k n) = now_free p m t
moved_by p m made t parent Joined = joined_now p m (if is_left t then t else t - 1) parent

abbrev pub moved : ProgramText → MachineState → ℕ → ℕ → Option Task → List TaskNow
moved p m made t None = []
moved p m made t (Some x) = moved_by p m made t x.parent x.status

-- the tasks that were made, so many of which there were before
abbrev pub child_of : ℕ → Option Task → List NewTask
child_of t None = []
child_of t (Some x) = record { task = t; parent = unwrap_or x.parent 0; function = x.top.function } ∷ []

abbrev pub children : MachineState → ℕ → ℕ → List NewTask
children m made now = if now == made then [] else child_of made (slice_get m.tasks made) ++ child_of (made + 1) (slice_get m.tasks (made + 1))
