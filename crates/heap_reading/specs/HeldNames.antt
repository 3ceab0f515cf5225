-- What the heaps of tasks that don't run hold, task by task.
use Rattle.std.specs.Prelude.{ℕ, Bool, true, false, Option, Some, None, List, [], if◌then◌else◌, slice_get}
use Rattle.core_invariant.specs.below.hh_model.{Name, is_running}
use Rattle.core_invariant.specs.below.run_ledger.{Ledger, heap_of, held_in}
use Rattle.core_invariant.specs.below.heap_tree.{TaskState, Ready, Out, Waiting, Ended, Joined}

abbrev pub is_state_running : Option TaskState → Bool
is_state_running None = false
is_state_running (Some Ready) = true
is_state_running (Some Out) = true
is_state_running (Some Waiting) = false
is_state_running (Some Ended) = false
is_state_running (Some Joined) = false

-- the names that the heap of the task t holds, unless the task runs
abbrev pub held_unless_running : Ledger → ℕ → List Name
held_unless_running l t = if is_running (slice_get l.machine.tasks t) then [] else held_in (heap_of l t)
