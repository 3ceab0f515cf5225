-- No worker has a task before the first entry.
use Rattle.std.proofs.Common.{◌≡◌, ℕ, zero, suc, Some}
use Rattle.entry_calls.specs.below.hh_lang.{ProgramText}
use Rattle.entry_calls.specs.below.run_trace.{SettingsValue}
use Rattle.entry_calls.specs.below.run_ledger.{heap_of, opening}

pub first_worker : (p : ProgramText) (s : SettingsValue) (t k : ℕ) → (heap_of (opening p s) t).worker ≡ Some k → ⊥
first_worker p s zero k h = absurd cc
first_worker p s (suc t) k h = absurd cc
