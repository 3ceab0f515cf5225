-- What comes next after a part's private steps.
use Rattle.std.specs.Prelude.{◌+◌, ℕ}
use Rattle.heap_reading.specs.below.task_machine.{Private, Paused, Shared, Due, NeedChunk, Spent, Pauses}
use Rattle.heap_reading.specs.below.core_invariant.{SharedValue}
use Rattle.fork_join_commit.specs.below.step_commit.{machine_after}

-- what comes next of the part's task, by the machine after its fresh steps
abbrev pub PausesNext : SharedValue → Private → Paused → Type 0
PausesNext w p why = Pauses w.program p (machine_after w p) why

-- how many steps fit in one entry: the private ones, and one more that isn't private
abbrev pub standing_by : Private → Paused → ℕ
standing_by p Shared = p.fresh + 1
standing_by p Due = p.fresh
standing_by p NeedChunk = p.fresh
standing_by p Spent = p.fresh
