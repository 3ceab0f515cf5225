-- The words that are held, and how they follow from entry to entry.
use Rattle.std.specs.Prelude.{◌≡◌, ℕ, zero, suc, ◌+◌, ◌-◌, None, length, slice_get, sum_by}
use Rattle.run_timeline.specs.Common.{ProgramText, MachineState, row_of, Kind, Ran, EntryValue, SettingsValue, Ledger, in_use, words_at, words_in, after, refusal, IsLegalLedger, cleared_words}
use Rattle.run_timeline.specs.declared.words.AccountCounts.{AccountCounts}

-- the words of all objects that heaps hold. While the run is under way those in the heaps of tasks that run count too,
-- which the report's line of words held leaves out; after the return of main no task runs
abbrev pub words_held : Ledger → ℕ
words_held l = sum_by (words_in l.machine) l.heaps

-- of accounts the tasks that were made, the chunks in use and the words held
abbrev pub counts_of : Ledger → AccountCounts
counts_of l = record { tasks = length l.machine.tasks; chunks = in_use l; words = words_held l }

-- WHAT AN ENTRY ALLOCATES

-- how many objects a task has made
abbrev pub objects_made : MachineState → ℕ → ℕ
objects_made m t = length (row_of (slice_get m.store t))

-- the words of so many objects of a task from this one on
abbrev pub words_made : MachineState → ℕ → ℕ → ℕ → ℕ
words_made m t first zero = 0
words_made m t first (suc n) = words_made m t first n + words_at m (record { task = t; count = first + n })

-- for an entry of steps how many objects its task has made, and the words of those behind the first so many
abbrev pub objects_by : Kind → MachineState → ℕ
objects_by (Ran t k) m = objects_made m t
objects_by _ m = 0

abbrev pub words_by : Kind → ℕ → MachineState → ℕ
words_by (Ran t k) first m = words_made m t first (objects_made m t - first)
words_by _ first m = 0

-- behind an entry as many words are held as before it, with those of the objects that its steps made, without those
-- that its heap has lost by a collection or a sweep
abbrev pub WordsFollowEntries : Type 0
WordsFollowEntries =
    (p : ProgramText) (s : SettingsValue) (l : Ledger) (e : EntryValue) → IsLegalLedger p s l → refusal p s l e ≡ None
    → let l' = after p s l e in
    words_held l' ≡ words_held l + words_by e.kind (objects_by e.kind l.machine) l'.machine - (cleared_words l e.kind - cleared_words l' e.kind)
