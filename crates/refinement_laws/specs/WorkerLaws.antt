-- The laws of what workers hold: an entry of one keeps what every other holds fitting, and what its own worker holds
-- afterwards fits.
use Rattle.std.specs.Prelude.{◌≡◌, ℕ, ℤ, true, Option, None, List, ◌∷◌, slice_set}
use Rattle.refinement_laws.specs.Common.{Addr, ProgramText, EntryValue, SettingsValue, Took, Sweep, End, Ledger, refusal, after, heap_of, ledger_of, is_legal, task_steps, Frame as ModelFrame, CallFrame, LedgerIsKnown, StepsAlone, rested, onward_with, RunsPrivateSteps, stepped_by, Belongings, Memory, KeepsJust, SameBut, SameObjects, gone_on, FrameIsRead, LiesWithOwner, MemoryStands, CopyFits, EndsAt, IsQuiet, Part, part_for, with_belongings, EntryMakes, BelongingsAfter, StepsTo, taken_by, TreeCounts, BegunBy, StandsForAll, IsBy, WorkerFits, WorkersFit, with_all_belongings, all_ahead}

-- WHAT OTHER WORKERS HOLD

abbrev pub TookLeaves : Type 0
TookLeaves =
    (p : ProgramText) (s : SettingsValue) (journal : List EntryValue) → is_legal p s journal ≡ true → (v v' : Memory) (w t : ℕ) → let l : Ledger = ledger_of p s journal in let e : EntryValue = record { worker = w; kind = Took t } in
    refusal p s l e ≡ None → SameBut v v' t → (r : Part) → WorkerFits p s r v l → WorkerFits p s r v' (after p s l e)

abbrev pub RanLeaves : Type 0
RanLeaves =
    (p : ProgramText) (s : SettingsValue) (v v' : Memory) (l l' : Ledger) (t w k : ℕ) (h : Belongings) → (E : RunsPrivateSteps p s l l' t w k) → WorkerFits p s (part_for s t h (taken_by E.splits.kind k)) v l
    → EntryMakes p v v' (task_steps p l t k) l' t h E.splits.task E.splits.line E.splits.kind E.splits.last → (r : Part) → (t ≡ r.task → ⊥) → WorkerFits p s r v l → WorkerFits p s r v' l'

-- a chunk, a leaf collection begun or put off, a marking begun or continued, the end of fuel
abbrev pub QuietLeaves : Type 0
QuietLeaves =
    (p : ProgramText) (s : SettingsValue) (journal : List EntryValue) → is_legal p s journal ≡ true → (v v' : Memory) (e : EntryValue) → let l : Ledger = ledger_of p s journal in
    refusal p s l e ≡ None → IsQuiet e.kind → SameObjects v v' l (after p s l e) → (r : Part) → (IsBy e.kind r.task → ⊥) → WorkerFits p s r v l → WorkerFits p s r v' (after p s l e)

abbrev pub SweepsLeave : Type 0
SweepsLeave =
    (p : ProgramText) (s : SettingsValue) (journal : List EntryValue) → is_legal p s journal ≡ true → (v v' : Memory) (w t given : ℕ) → let l : Ledger = ledger_of p s journal in let e : EntryValue = record { worker = w; kind = Sweep t given } in
    refusal p s l e ≡ None → KeepsJust v v' l (after p s l e) t (heap_of l t).snapshot → (r : Part) → WorkerFits p s r v l → WorkerFits p s r v' (after p s l e)

abbrev pub EndsLeave : Type 0
EndsLeave =
    (p : ProgramText) (s : SettingsValue) (journal : List EntryValue) → is_legal p s journal ≡ true → (v v' : Memory) (w t taken given left : ℕ) (h h' : Belongings) (f : Addr → Addr) → let l : Ledger = ledger_of p s journal in
    let e : EntryValue = record { worker = w; kind = End t taken given left } in
    refusal p s l e ≡ None → CopyFits p s t h h' f v l → EndsAt v v' t h' f → (r : Part) → (t ≡ r.task → ⊥) → WorkerFits p s r v l → WorkerFits p s r v' (after p s l e)

-- WHAT ITS OWN WORKER HOLDS

-- the belongings that it takes
abbrev pub TookFits : Type 0
TookFits =
    (p : ProgramText) (s : SettingsValue) (journal : List EntryValue) → is_legal p s journal ≡ true → (v v' : Memory) (c : TreeCounts) (w t : ℕ) → let l : Ledger = ledger_of p s journal in let e : EntryValue = record { worker = w; kind = Took t } in
    refusal p s l e ≡ None → StandsForAll v c l → SameBut v v' t → WorkerFits p s (part_for s t (v.belongings t) 0) v' (after p s l e)

-- after an entry of steps, if the worker goes on with the task or the run halts
abbrev pub RanFits : Type 0
RanFits =
    (p : ProgramText) (s : SettingsValue) (v v' : Memory) (l l' : Ledger) (t w k : ℕ) (h g : Belongings) → (E : RunsPrivateSteps p s l l' t w k) → WorkerFits p s (part_for s t h (taken_by E.splits.kind k)) v l
    → (C : EntryMakes p v v' (task_steps p l t k) l' t h E.splits.task E.splits.line E.splits.kind E.splits.last) → BelongingsAfter p v v' (task_steps p l t k) l' t h E.splits.task E.splits.line E.splits.kind E.splits.last C g
    → WorkerFits p s (part_for s t g 0) v' l'

-- after a chunk, or its leaf collection begun or put off
abbrev pub QuietFits : Type 0
QuietFits =
    (p : ProgramText) (s : SettingsValue) (journal : List EntryValue) → is_legal p s journal ≡ true → (v v' : Memory) (e : EntryValue) (t : ℕ) (h g : Belongings) → let l : Ledger = ledger_of p s journal in let l' : Ledger = after p s l e in
    refusal p s l e ≡ None → IsQuiet e.kind → WorkerFits p s (part_for s t h 0) v l → SameObjects (with_belongings v t h) (with_belongings v' t g) (rested l t) (rested l' t) → BegunBy (with_belongings v' t g) (rested l' t) t g.begun
    → WorkerFits p s (part_for s t g 0) v' l'

-- and after the end of its leaf collection, the copy
abbrev pub EndsFit : Type 0
EndsFit =
    (p : ProgramText) (s : SettingsValue) (journal : List EntryValue) → is_legal p s journal ≡ true → (v v' : Memory) (w t taken given left : ℕ) (h h' : Belongings) (f : Addr → Addr) → let l : Ledger = ledger_of p s journal in
    let e : EntryValue = record { worker = w; kind = End t taken given left } in
    refusal p s l e ≡ None → CopyFits p s t h h' f v l → EndsAt v v' t h' f → h'.begun ≡ None → WorkerFits p s (part_for s t h' 0) v' (after p s l e)

-- HOW ITS BELONGINGS ARE READ after a read or an output, which change only its top frame

abbrev pub FramesGo : Type 0
FramesGo =
    (p : ProgramText) (s : SettingsValue) (v : Memory) (l l' : Ledger) (t w k : ℕ) (h : Belongings) → (E : RunsPrivateSteps p s l l' t w k) → WorkerFits p s (part_for s t h k) v l
    → (f g : CallFrame) (fs : List CallFrame) (top : ModelFrame) (outs : List ℤ) → let m : Ledger = task_steps p l t k in
    StepsAlone m l' t → l' ≡ stepped_by m (record m.machine { tasks = slice_set m.machine.tasks t (record E.splits.task { top = top }); outputs = outs }) → h.frames ≡ f ∷ fs
    → (FrameIsRead (LiesWithOwner (with_belongings v t h) (rested m t)) f E.splits.task.top → FrameIsRead (LiesWithOwner (with_belongings v t h) (rested m t)) g top) → StepsTo v l' t h (record h { frames = g ∷ fs })

-- if it sets at most a number register: the read of a number or of a count of fields, a compare and swap that doesn't
-- find what it expects, an output
abbrev pub NumbersGo : Type 0
NumbersGo =
    (p : ProgramText) (s : SettingsValue) (v : Memory) (l l' : Ledger) (t w k : ℕ) (h : Belongings) → (E : RunsPrivateSteps p s l l' t w k) → WorkerFits p s (part_for s t h k) v l
    → (f : CallFrame) (fs : List CallFrame) (c : Option (ℕ × ℤ)) (outs : List ℤ) → let m : Ledger = task_steps p l t k in
    StepsAlone m l' t → l' ≡ stepped_by m (record m.machine { tasks = slice_set m.machine.tasks t (record E.splits.task { top = onward_with c E.splits.task.top }); outputs = outs }) → h.frames ≡ f ∷ fs
    → StepsTo v l' t h (record h { frames = gone_on c f ∷ fs })

-- PARTS TOGETHER: any number of parts that fit a memory fit it together, with all belongings and the steps of all
abbrev pub AllFitTogether : Type 0
AllFitTogether =
    (p : ProgramText) (s : SettingsValue) (qs : List Part) (v : Memory) (l : Ledger) → LedgerIsKnown l → l.machine.end ≡ None → MemoryStands v l → WorkersFit p s qs v l → MemoryStands (with_all_belongings v qs) (all_ahead p qs l)
