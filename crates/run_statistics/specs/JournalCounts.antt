-- What is recorded of the entries of a journal beside the shared value.
use Rattle.std.specs.Prelude.{◌≡◌, ℕ, true, Some, None, List, length, slice_get, slice_set, is_some}
use Rattle.heap_reading.specs.below.run_trace.{Kind, Begin, Sweep, EntryValue}
use Rattle.heap_reading.specs.below.run_ledger.{Ledger, heap_of, words_in, opening}
use Rattle.run_report.specs.declared.totals.Totals.{Totals}
use Rattle.run_report.specs.Totals.{totals_from}
use Rattle.heap_reading.specs.below.core_invariant.{Enters, refused, IsSharedValue, SharedValue, accounts}
use Rattle.run_statistics.specs.declared.counting.JournalCounts.{JournalCounts}

-- the totals of the journal
abbrev pub totals_of : SharedValue → Totals
totals_of w = totals_from w.program w.settings (opening w.program w.settings) w.journal.items

-- for each worker in a leaf collection, how many words the heap has that it collects
abbrev pub KeepsBegun : SharedValue → List ℕ → Type 0
KeepsBegun w begun =
    (k t : ℕ) → (heap_of (accounts w) t).worker ≡ Some k → is_some (heap_of (accounts w) t).begun ≡ true
    → slice_get begun k ≡ Some (words_in (accounts w).machine (heap_of (accounts w) t))

-- THE TOTALS ARE THOSE OF THE JOURNAL
pub record CountsJournal (w : SharedValue) (c : JournalCounts) : Type 0 where
  pub totals : c.totals ≡ totals_of w
  pub workers : length c.begun ≡ w.settings.workers
  pub begun : KeepsBegun w c.begun

-- COUNTING AN ENTRY

-- the records of workers after an entry of this kind
abbrev pub begun_with : List ℕ → ℕ → ℕ → Kind → List ℕ
begun_with begun worker words (Begin t) = slice_set begun worker words
begun_with begun worker words _ = begun

-- before one that begins a leaf collection or sweeps, its heap has n words
abbrev pub HasWords : Ledger → Kind → ℕ → Type 0
HasWords l (Begin t) words = words ≡ words_in l.machine (heap_of l t)
HasWords l (Sweep t given) words = words ≡ words_in l.machine (heap_of l t)
HasWords l _ words = Unit {0}

-- the entry was made, and isn't counted yet
pub record IsMade (w after : SharedValue) (c : JournalCounts) (e : EntryValue) (words : ℕ) : Type 0 where
  pub stands : IsSharedValue w
  pub enters : Enters w after e
  pub free : refused w e ≡ None
  pub keeps : CountsJournal w c
  pub had : HasWords (accounts w) e.kind words
