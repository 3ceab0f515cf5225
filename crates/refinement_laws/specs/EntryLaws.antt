-- The laws of the whole relation: each accepted entry keeps it.
use Rattle.refinement_laws.specs.Common.{RunsPrivateSteps, Rests, EntryMakes, taken_by, Marks, CountsGo, IsQuiet, IsMarked, RanCounts, EntryValue, Took, Ran, Sweep, End, SettingsValue, ledger_of, is_legal, refusal, after, out_from, task_steps, Ledger, heap_of, AllNoted, MarksOn, NotesStay, OthersNotes, StandsForAll, handed, TreeCounts, TreeCountsStand, StandsFor, CopyFits, EndsAt, Addr, ProgramText, IsProgram, Done, Belongings, Memory, MemoryStands, part_for, KeepsJust, SameBut, SameObjects, WorkerFits}
use Rattle.std.specs.Prelude.{◌≡◌, ℕ, suc, true, None, List, Some}
use Rattle.refinement_laws.specs.First.{first}

-- THE WHOLE RELATION before any entry

-- and after each accepted one

-- a worker takes a task
abbrev pub TookStandsFor : Type 0
TookStandsFor =
    (p : ProgramText) (s : SettingsValue) (journal : List EntryValue) → IsProgram p → is_legal p s journal ≡ true → (v v' : Memory) (c c' : TreeCounts) (w t : ℕ) → let l : Ledger = ledger_of p s journal in let e : EntryValue = record { worker = w; kind = Took t } in
    refusal p s l e ≡ None → StandsForAll v c l → SameBut v v' t → ((u : ℕ) → NotesStay v v' u) → CountsGo p s l c c' w (Took t) → StandsForAll v' c' (after p s l e)

-- private steps and a last one, of whatever kind
abbrev pub RanStandsFor : Type 0
RanStandsFor =
    (p : ProgramText) (s : SettingsValue) (journal : List EntryValue) → IsProgram p → is_legal p s journal ≡ true → (v v' : Memory) (c c' : TreeCounts) (w t k : ℕ) (h : Belongings) → let l : Ledger = ledger_of p s journal in let e : EntryValue = record { worker = w; kind = Ran t (suc k) } in
    let l' : Ledger = after p s l e in
    refusal p s l e ≡ None → (E : RunsPrivateSteps p s l l' t w k) → StandsForAll v c l → WorkerFits p s (part_for s t h (taken_by E.splits.kind k)) v l
    → (C : EntryMakes p v v' (task_steps p l t k) l' t h E.splits.task E.splits.line E.splits.kind E.splits.last) → Marks p v v' (task_steps p l t k) l' t h E.splits.task E.splits.line E.splits.kind E.splits.last C
    → RanCounts p c c' (task_steps p l t k) l' t w k E.splits.task E.splits.line E.splits.kind E.splits.last → StandsForAll v' c' l'

-- a chunk, a leaf collection begun or put off, a marking begun or continued, the end of fuel
abbrev pub QuietStandsFor : Type 0
QuietStandsFor =
    (p : ProgramText) (s : SettingsValue) (journal : List EntryValue) → IsProgram p → is_legal p s journal ≡ true → (v v' : Memory) (c c' : TreeCounts) (e : EntryValue) → let l : Ledger = ledger_of p s journal in
    refusal p s l e ≡ None → IsQuiet e.kind → StandsForAll v c l → SameObjects v v' l (after p s l e)
    → ((u : ℕ) → (IsMarked e.kind u → ⊥) → NotesStay v v' u) → ((u : ℕ) → IsMarked e.kind u → MarksOn v v' (after p s l e) u) → CountsGo p s l c c' e.worker e.kind → StandsForAll v' c' (after p s l e)

-- a sweep
abbrev pub SweepsStandFor : Type 0
SweepsStandFor =
    (p : ProgramText) (s : SettingsValue) (journal : List EntryValue) → IsProgram p → is_legal p s journal ≡ true → (v v' : Memory) (c c' : TreeCounts) (w t given : ℕ) → let l : Ledger = ledger_of p s journal in let e : EntryValue = record { worker = w; kind = Sweep t given } in
    refusal p s l e ≡ None → StandsForAll v c l → KeepsJust v v' l (after p s l e) t (heap_of l t).snapshot → OthersNotes v v' t → (v'.belongings t).begun ≡ None → CountsGo p s l c c' w (Sweep t given) → StandsForAll v' c' (after p s l e)

-- the end of a leaf collection
abbrev pub EndsStandFor : Type 0
EndsStandFor =
    (p : ProgramText) (s : SettingsValue) (journal : List EntryValue) → IsProgram p → is_legal p s journal ≡ true → (v v' : Memory) (c c' : TreeCounts) (w t taken given left : ℕ) (h h' : Belongings) (f : Addr → Addr) → let l : Ledger = ledger_of p s journal in
    let e : EntryValue = record { worker = w; kind = End t taken given left } in
    refusal p s l e ≡ None → StandsForAll v c l → CopyFits p s t h h' f v l → EndsAt v v' t h' f → h'.begun ≡ None → OthersNotes v v' t → CountsGo p s l c c' w (End t taken given left) → StandsForAll v' c' (after p s l e)

-- after the run is done every heap is returned
abbrev pub DoneReturnsAll : Type 0
DoneReturnsAll =
    (p : ProgramText) (s : SettingsValue) (l l' : Ledger) (t w k : ℕ) → RunsPrivateSteps p s l l' t w k → l'.machine.end ≡ Some Done → (u : ℕ) → Rests (handed l') u

-- ITS PARTS

abbrev pub WholeStands : Type 0
WholeStands =
    (v : Memory) (c : TreeCounts) (l : Ledger) → MemoryStands v l → TreeCountsStand c l → ((t : ℕ) → Rests l t → (heap_of l t).begun ≡ None) → ((t : ℕ) → Rests l t → (v.belongings t).begun ≡ None) → AllNoted v l → StandsFor v c l

abbrev pub WholeNotes : Type 0
WholeNotes = (v : Memory) (c : TreeCounts) (l : Ledger) → StandsFor v c l → AllNoted v l

-- the task that a worker holds is the first that it holds by the accounts
abbrev pub TasksOutAreTold : Type 0
TasksOutAreTold = (c : TreeCounts) (l : Ledger) → TreeCountsStand c l → (w : ℕ) → c.task_out w ≡ out_from w 0 l.heaps
