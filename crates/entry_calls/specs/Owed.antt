-- What a worker owes, by the journal.
use Rattle.std.specs.Prelude.{◌≡◌, ℕ, true}
use Rattle.leaf_collections.specs.below.run_trace.{EntryValue}
use Rattle.leaf_collections.specs.below.run_ledger.{Owed, WorkerPace, gives, owed, pace_at_end, pace_of}
use Rattle.leaf_collections.specs.below.core_invariant.{SharedValue, accounts}

-- the record of the worker's entries in the journal
abbrev pub worker_pace : SharedValue → ℕ → WorkerPace
worker_pace w k = pace_of (pace_at_end w.program w.settings w.journal.items) k

-- what its next entry has to be
abbrev pub owed_by : SharedValue → ℕ → Owed
owed_by w k = owed w.settings (accounts w) (worker_pace w k)

-- the entry gives it
abbrev pub Pays : SharedValue → EntryValue → Type 0
Pays w e = gives (owed_by w e.worker) e.kind ≡ true
