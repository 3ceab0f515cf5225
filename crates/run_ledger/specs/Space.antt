-- Laws of space by count.
use Rattle.std.specs.Prelude.{◌≡◌, ℕ, ◌+◌, ◌*◌, ◌<◌, ◌≤◌, true, false, List, [], ◌∷◌, ◌++◌, Some, length, Contains, sum_by}
use Rattle.run_ledger.specs.Common.{End, Sweep, EntryValue, private_limit, SettingsValue, field_limit, ProgramText, IsProgram, most_fields, Name, Object, MachineState, asked, Counted}
use Rattle.run_ledger.specs.declared.data.Heap.{Heap}
use Rattle.run_ledger.specs.declared.data.Ledger.{Ledger}
use Rattle.run_ledger.specs.Heaps.{chunk_words, words_sum, held, heap_of, begun_in, take_of, in_use, object_words_of}
use Rattle.run_ledger.specs.Steps.{task_steps}
use Rattle.run_ledger.specs.Entries.{after}
use Rattle.run_ledger.specs.Journals.{ledger_of, is_legal, tasks_of}
use Rattle.run_ledger.specs.Sound.{SoundAt}
use Rattle.run_ledger.specs.Report.{report_of}

-- a legal journal has at most fuel + 256 steps
abbrev pub StepsAreBounded : Type 0
StepsAreBounded = (p : ProgramText) (s : SettingsValue) (journal : List EntryValue) → is_legal p s journal ≡ true → (ledger_of p s journal).steps ≤ s.fuel + private_limit

-- each list is nonempty
abbrev pub EachHasName : List (List Name) → Type 0
EachHasName lists = (ns : List Name) → Contains lists ns → 0 < length ns

-- the end of t's leaf collection, by the accounts l before it and those after it: it took as many chunks when it began
-- as its small names would take now; at most that many hold the small survivors, each at least one, and none is
-- reserved for a large object
pub record CollectedWithin (l after : Ledger) (t : ℕ) : Type 0 where
  pub took : begun_in (heap_of l t) ≡ take_of l.machine (heap_of l t)
  pub most : length (heap_of after t).chunks ≤ take_of l.machine (heap_of l t)
  pub each : EachHasName (heap_of after t).chunks
  pub reserved : (heap_of after t).reserved ≡ 0

abbrev pub LeafCollectionsAreBounded : Type 0
LeafCollectionsAreBounded =
    (p : ProgramText) (s : SettingsValue) (before rest : List EntryValue) (w t taken given left : ℕ)
    → let e : EntryValue = record { worker = w; kind = End t taken given left } in
    is_legal p s (before ++ e ∷ rest) ≡ true → CollectedWithin (ledger_of p s before) (after p s (ledger_of p s before) e) t

-- a sweep of t's heap, by the accounts after it: each chunk has a name, and none is reserved for a large object
pub record SweptWithin (after : Ledger) (t : ℕ) : Type 0 where
  pub each : EachHasName (heap_of after t).chunks
  pub reserved : (heap_of after t).reserved ≡ 0

abbrev pub SweepsAreBounded : Type 0
SweepsAreBounded =
    (p : ProgramText) (s : SettingsValue) (before rest : List EntryValue) (w t given : ℕ)
    → let e : EntryValue = record { worker = w; kind = Sweep t given } in
    is_legal p s (before ++ e ∷ rest) ≡ true → SweptWithin (after p s (ledger_of p s before) e) t

-- the chunks in use never exceed the limit, neither at the end nor before
pub record UsesFew (p : ProgramText) (s : SettingsValue) (journal : List EntryValue) : Type 0 where
  pub now : in_use (ledger_of p s journal) ≤ s.chunks
  pub peak : (report_of p s journal).peak ≤ s.chunks

abbrev pub UseIsBounded : Type 0
UseIsBounded = (p : ProgramText) (s : SettingsValue) (journal : List EntryValue) → is_legal p s journal ≡ true → UsesFew p s journal

-- with this limit of fields, no step of the program allocates more than n words
abbrev pub AsksAtMost : ProgramText → ℕ → ℕ → Type 0
AsksAtMost p limit most = (m : MachineState) (t w : ℕ) → m.field_limit ≡ limit → asked p m t ≡ Some w → w ≤ most

-- a `newm` allocates two words more than its fields, and a `pack` two more than its registers
abbrev pub ProgramsAskFew : Type 0
ProgramsAskFew = (p : ProgramText) → IsProgram p → (limit : ℕ) → AsksAtMost p limit (limit + 34)

-- so a heap counts at most this many words since its last leaf collection for each step taken, in both versions of the
-- trace
pub record CountsFew (s : SettingsValue) (l : Ledger) : Type 0 where
  pub by_steps : (t : ℕ) → (heap_of l t).since ≤ (field_limit s.version + 34) * l.steps
  pub below : (t : ℕ) → (heap_of l t).since ≤ (most_fields + 34) * l.steps

-- after a legal journal, and then after any steps of a task that is in no leaf collection
abbrev pub SinceIsBounded : Type 0
SinceIsBounded =
    (p : ProgramText) (s : SettingsValue) (journal : List EntryValue) → IsProgram p → is_legal p s journal ≡ true
    → let l = ledger_of p s journal in CountsFew s l × ((t k : ℕ) → SoundAt t l → CountsFew s (task_steps p l t k))

-- the steps of a journal's accounts are those of its entries, and bound the tasks, objects and joins
pub record IsCountedBy (l : Ledger) (journal : List EntryValue) : Type 0 where
  pub steps : l.steps ≡ length (tasks_of journal)
  pub counts : Counted l.steps l.machine.tasks l.machine.store

abbrev pub JournalsAreCounted : Type 0
JournalsAreCounted = (p : ProgramText) (s : SettingsValue) (journal : List EntryValue) → IsCountedBy (ledger_of p s journal) journal

-- the words in the last list; none without a list
abbrev pub last_words : MachineState → List (List Name) → ℕ
last_words m [] = 0
last_words m (ns ∷ []) = words_sum m ns
last_words m (ns ∷ ms ∷ rest) = last_words m (ms ∷ rest)

-- a list has at most a chunk's words, and the last one leaves the room that is there
pub record FitsInChunks (m : MachineState) (h : Heap) : Type 0 where
  pub each : (ns : List Name) → Contains h.chunks ns → words_sum m ns ≤ chunk_words
  pub last : last_words m h.chunks + h.room ≤ chunk_words

-- the heaps fit in their chunks, and the held names have at most the words of the chunks in use
pub record HeapsFitChunks (l : Ledger) : Type 0 where
  pub heaps : (t : ℕ) → FitsInChunks l.machine (heap_of l t)
  pub words : words_sum l.machine (held l) ≤ chunk_words * in_use l

abbrev pub HeapsFit : Type 0
HeapsFit = (p : ProgramText) (s : SettingsValue) (journal : List EntryValue) → is_legal p s journal ≡ true → HeapsFitChunks (ledger_of p s journal)

-- the words of all objects of a store
abbrev pub store_words : List (List Object) → ℕ
store_words store = sum_by (λ row. sum_by (λ o. object_words_of (Some o)) row) store

-- each word that was allocated is held, or was dropped by the end of a leaf collection or a sweep
abbrev pub WordsAreAccounted : Type 0
WordsAreAccounted =
    (p : ProgramText) (s : SettingsValue) (journal : List EntryValue) → is_legal p s journal ≡ true
    → let l = ledger_of p s journal in
    let r = report_of p s journal in r.leaf_freed + r.inner_freed + words_sum l.machine (held l) ≡ store_words l.machine.store
