-- The records of workers' entries, to know what they owe.
use Rattle.std.specs.Prelude.{◌≡◌, ◌≢◌, ◌<◌, ℕ, true, Some, None, List, [], length, slice_get}
use Rattle.run_statistics.specs.below.run_trace.{Kind}
use Rattle.run_statistics.specs.below.run_ledger.{Ledger, WorkerPace, is_paced, pace_noted}
use Rattle.run_statistics.specs.below.core_invariant.{SharedValue, accounts}
use Rattle.run_statistics.specs.below.heap_marking.{Pace, Other, KeepsPace}
use Rattle.run_statistics.specs.below.entry_calls.{worker_pace}

-- the journal is paced; and of each worker there is a record, as long as the run goes on, that determines what it owes
pub record KeepsPaces (w : SharedValue) (paces : List Pace) : Type 0 where
  pub paced : is_paced w.program w.settings w.journal.items ≡ true
  pub workers : length paces ≡ w.settings.workers
  pub keeps : (accounts w).end ≡ None → (k : ℕ) (q : Pace) → slice_get paces k ≡ Some q → KeepsPace (accounts w) q (worker_pace w k)

-- NOTING AN ENTRY

-- the record of each worker before its first entry
pub record AreIdle (paces : List Pace) (workers : ℕ) : Type 0 where
  pub many : length paces ≡ workers
  pub each : (k : ℕ) (q : Pace) → slice_get paces k ≡ Some q → (q.previous ≡ Other) × (q.marks.items ≡ [])

-- only the record of the worker k changes, as given
pub record NotesAt (old new : List Pace) (k : ℕ) (changes : Pace → Pace → Type 0) : Type 0 where
  pub many : length new ≡ length old
  pub others : (j : ℕ) → j ≢ k → slice_get new j ≡ slice_get old j
  pub own : (q : Pace) → slice_get new k ≡ Some q → (before : Pace) × (slice_get old k ≡ Some before) × changes before q

abbrev pub SameMarks : Pace → Pace → Type 0
SameMarks old new = (new.previous ≡ old.previous) × (new.marks.items ≡ old.marks.items)

-- no steps, and no marking begun
abbrev pub NotesOther : Pace → Pace → Type 0
NotesOther old new = new ≡ record old { previous = Other }

-- a record of the worker's entries is right with one more, by the accounts after it
abbrev pub KeepsNoted : Ledger → Kind → Pace → Pace → Type 0
KeepsNoted l kind old new = (x : WorkerPace) → KeepsPace l old x → KeepsPace l new (pace_noted l x kind)

-- the worker's list has capacity for one more marking
abbrev pub HasCapacityForMarking : List Pace → ℕ → Type 0
HasCapacityForMarking paces k = (q : Pace) → slice_get paces k ≡ Some q → 0 < q.marks.room
