-- What the heaps of tasks that don't run hold.
use Rattle.std.specs.Prelude.{ℕ, ◌<◌, ◌^◌, List, [], if◌then◌else◌, length, slice_get}
use Rattle.hh_model.specs.declared.data.Name.{Name}
use Rattle.hh_model.specs.declared.data.Task.{Task}
use Rattle.hh_model.specs.Step.{is_running}
use Rattle.run_ledger.specs.declared.data.Heap.{Heap}
use Rattle.run_ledger.specs.declared.data.Ledger.{Ledger}
use Rattle.run_ledger.specs.Heaps.{heap_of, held_in, words_sum}
use Rattle.run_ledger.specs.Report.{held_not_running}

-- what the heap of the task t holds, unless the task runs
abbrev pub held_unless_running : List Task → ℕ → Heap → List Name
held_unless_running tasks t h = if is_running (slice_get tasks t) then [] else held_in h

-- the counts of what is held fit their types; this holds for every legal journal
pub record IsCountable (l : Ledger) : Type 0 where
  pub each : (t : ℕ) → length (held_in (heap_of l t)) < 2 ^ 62
  pub objects : length (held_not_running l) < 2 ^ 62
  pub words : words_sum l.machine (held_not_running l) < 2 ^ 62
