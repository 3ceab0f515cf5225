-- The report of a journal: sums over its entries and the accounts before them, and counts of the accounts at its end.
use Rattle.std.specs.Prelude.{ℕ, ◌+◌, ◌-◌, List, [], ◌∷◌, ◌++◌, slice_get, length, if◌then◌else◌, max}
use Rattle.run_ledger.specs.Common.{Kind, End, PutOff, Sweep, EntryValue, SettingsValue, ProgramText, Name, Task, is_running}
use Rattle.run_ledger.specs.declared.data.Heap.{Heap}
use Rattle.run_ledger.specs.declared.data.Ledger.{Ledger}
use Rattle.run_ledger.specs.declared.data.Report.{Report}
use Rattle.run_ledger.specs.Heaps.{heap_of, held_in, words_in, words_sum, in_use, collected, swept_heap}
use Rattle.run_ledger.specs.Entries.{after}
use Rattle.run_ledger.specs.Journals.{opening, ledger_of}

-- the sum over a journal of what each entry counts, by the accounts before it
abbrev pub tally : ProgramText → SettingsValue → (Ledger → Kind → ℕ) → Ledger → List EntryValue → ℕ
tally p s count l [] = 0
tally p s count l (e ∷ es) = count l e.kind + tally p s count (after p s l e) es

-- a leaf collection that ends, one that is put off, and a sweep
abbrev pub count_end : Ledger → Kind → ℕ
count_end l (End t taken given left) = 1
count_end l _ = 0

abbrev pub count_putoff : Ledger → Kind → ℕ
count_putoff l (PutOff t) = 1
count_putoff l _ = 0

abbrev pub count_sweep : Ledger → Kind → ℕ
count_sweep l (Sweep t given) = 1
count_sweep l _ = 0

-- the words that a heap has lost
abbrev pub lost : Ledger → ℕ → (Heap → Heap) → ℕ
lost l t f = words_in l.machine (heap_of l t) - words_in l.machine (f (heap_of l t))

-- the words that the end of a leaf collection drops, and those that a sweep drops
abbrev pub freed_by_end : Ledger → Kind → ℕ
freed_by_end l (End t taken given left) = lost l t (collected l.machine)
freed_by_end l _ = 0

abbrev pub freed_by_sweep : Ledger → Kind → ℕ
freed_by_sweep l (Sweep t given) = lost l t swept_heap
freed_by_sweep l _ = 0

-- the most chunks in use after any entry, or 0 without an entry
abbrev pub peak_from : ProgramText → SettingsValue → Ledger → List EntryValue → ℕ
peak_from p s l [] = 0
peak_from p s l (e ∷ es) = max (in_use (after p s l e)) (peak_from p s (after p s l e) es)

-- the names held in the heaps of tasks that don't run
abbrev pub held_not_running_from : List Task → List Heap → ℕ → List Name
held_not_running_from tasks [] t = []
held_not_running_from tasks (h ∷ hs) t = if is_running (slice_get tasks t) then held_not_running_from tasks hs (t + 1) else held_in h ++ held_not_running_from tasks hs (t + 1)

abbrev pub held_not_running : Ledger → List Name
held_not_running l = held_not_running_from l.machine.tasks l.heaps 0

-- the report of a journal
abbrev pub report_of : ProgramText → SettingsValue → List EntryValue → Report
report_of p s journal =
    let first = opening p s in
    let last = ledger_of p s journal in record {
      tasks = length last.machine.tasks;
      steps = last.steps;
      turns = length journal;
      leaf = tally p s count_end first journal;
      putoff = tally p s count_putoff first journal;
      leaf_freed = tally p s freed_by_end first journal;
      inner = tally p s count_sweep first journal;
      inner_freed = tally p s freed_by_sweep first journal;
      chunks = in_use last;
      peak = peak_from p s first journal;
      held = length (held_not_running last);
      words = words_sum last.machine (held_not_running last);
    }
