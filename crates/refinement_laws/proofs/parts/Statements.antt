-- The statements of lemmas on parts, by the current accounts.
use Rattle.refinement_laws.proofs.Common.{AllNoted, CopyFits, EndsAt, Heap, Ledger, heap_of, with_heap, collected, SoundLedger, ◌≡◌, ℕ, ℤ, false, Option, Some, List, slice_get, Addr, ProgramText, SettingsValue, Name, Object, Running, Task, is_waiting, CallFrame, ref_of, MemoryStands, Belongings, Memory, Rests, rested, StepsAlone, WorkerTakes, SameTasks, LedgerIsKnown, Leaves, JoinsTasks, TasksCanJoin, ForksTask, StoresOne, EndsTask, StoresNumber, Part, FitsAt, with_belongings, ahead, part_for, SameBut, SameObjects, JoinsBelongings, ForksBelongings, StoresAt, StepsInBelongings, BelongingsAreRead, HasResult, EndsBelongings, StoresNumberAt, IsSteady, RunsWithPart, AreOut}

abbrev pub ForksLeaveFitting : Type 0
ForksLeaveFitting =
    (p : ProgramText) (s : SettingsValue) (q : Part) (v v' : Memory) (l l' : Ledger) (a b f i : ℕ) (z : Task) → LedgerIsKnown l → LedgerIsKnown l' → FitsAt p s q v l
    → z.status ≡ Running → ForksTask (ahead p q l) l' q.task a b f i z → ForksBelongings (with_belongings v q.task q.belongings) v' q.task a b f i
    → (r : Part) (x y : Task) → AreOut l q r x y → Leaves r.task (ahead p q l) l' → FitsAt p s r v l → FitsAt p s r v' l'

abbrev pub JoinsLeaveFitting : Type 0
JoinsLeaveFitting =
    (p : ProgramText) (s : SettingsValue) (q : Part) (v v' : Memory) (l l' : Ledger) (j c d : ℕ) (z : Task) (rl rr : ℤ × Option Name) (al ar : ℤ × Option Addr) → LedgerIsKnown l → LedgerIsKnown l' → FitsAt p s q v l
    → JoinsTasks (ahead p q l) l' j c d z rl rr → TasksCanJoin (ahead p q l) j c d z → JoinsBelongings (with_belongings v q.task q.belongings) v' j c d al ar
    → HasResult (with_belongings v q.task q.belongings) (ahead p q l) c rl al → HasResult (with_belongings v q.task q.belongings) (ahead p q l) d rr ar
    → (r : Part) (x y : Task) → AreOut l q r x y → Leaves r.task (ahead p q l) l' → FitsAt p s r v l → FitsAt p s r v' l'

abbrev pub FinishesLeaveFitting : Type 0
FinishesLeaveFitting =
    (p : ProgramText) (s : SettingsValue) (q : Part) (v v' : Memory) (l l' : Ledger) (z : Task) (f : CallFrame) (fs : List CallFrame) → LedgerIsKnown l → LedgerIsKnown l' → FitsAt p s q v l
    → EndsTask (ahead p q l) l' q.task z → EndsBelongings (with_belongings v q.task q.belongings) v' q.task f fs
    → (r : Part) (x y : Task) → AreOut l q r x y → Leaves r.task (ahead p q l) l' → FitsAt p s r v l → FitsAt p s r v' l'

-- after a store its worker still holds the task, with the belongings g
abbrev pub StoresLeaveFitting : Type 0
StoresLeaveFitting =
    (p : ProgramText) (s : SettingsValue) (q : Part) (v v' : Memory) (l l' : Ledger) (g : Belongings) (w : ℕ) (z : Task) (n : Name) (o : Object) (ro rv i : ℕ) (c : Option (ℕ × ℤ)) (f : CallFrame) (fs : List CallFrame) (a : Addr) → LedgerIsKnown l → LedgerIsKnown l' → FitsAt p s q v l
    → (heap_of l' q.task).worker ≡ Some w → StoresOne (ahead p q l) (rested l' q.task) q.task z n o ro rv i c → StoresAt (with_belongings v q.task q.belongings) (with_belongings v' q.task g) (ahead p q l) q.task f fs a rv i c → ref_of f ro ≡ Some a
    → (r : Part) (x y : Task) → AreOut l q r x y → Leaves r.task (ahead p q l) l' → FitsAt p s r v l → FitsAt p s r v' l'

abbrev pub NumbersLeaveFitting : Type 0
NumbersLeaveFitting =
    (p : ProgramText) (s : SettingsValue) (q : Part) (v v' : Memory) (l l' : Ledger) (g : Belongings) (w : ℕ) (z : Task) (n : Name) (o : Object) (ro rv i : ℕ) (f : CallFrame) (fs : List CallFrame) (a : Addr) → LedgerIsKnown l → LedgerIsKnown l' → FitsAt p s q v l
    → (heap_of l' q.task).worker ≡ Some w → StoresNumber (ahead p q l) (rested l' q.task) q.task z n o ro rv i → StoresNumberAt (with_belongings v q.task q.belongings) (with_belongings v' q.task g) q.task f fs a rv i → ref_of f ro ≡ Some a
    → (r : Part) (x y : Task) → AreOut l q r x y → Leaves r.task (ahead p q l) l' → FitsAt p s r v l → FitsAt p s r v' l'

abbrev pub TakingsLeaveFitting : Type 0
TakingsLeaveFitting =
    (p : ProgramText) (s : SettingsValue) (v v' : Memory) (l l' : Ledger) (t w : ℕ) → SoundLedger l → SoundLedger l' → Rests l t → is_waiting (slice_get l.machine.tasks t) ≡ false → WorkerTakes l l' t w → SameBut v v' t
    → (r : Part) → IsSteady r l → slice_get l'.heaps r.task ≡ slice_get l.heaps r.task → FitsAt p s r v l → FitsAt p s r v' l'

-- a chunk, a collection begun or put off, a marking begun or continued, the end of fuel
abbrev pub QuietLeavesFitting : Type 0
QuietLeavesFitting =
    (p : ProgramText) (s : SettingsValue) (v v' : Memory) (l l' : Ledger) → SoundLedger l → SoundLedger l' → SameTasks l l' → SameObjects v v' l l'
    → (r : Part) → IsSteady r l → slice_get l'.heaps r.task ≡ slice_get l.heaps r.task → FitsAt p s r v l → FitsAt p s r v' l'

abbrev pub StoresFit : Type 0
StoresFit =
    (p : ProgramText) (s : SettingsValue) (q : Part) (v v' : Memory) (l l' : Ledger) (g : Belongings) (w : ℕ) (z : Task) (n : Name) (o : Object) (ro rv i : ℕ) (c : Option (ℕ × ℤ)) (f : CallFrame) (fs : List CallFrame) (a : Addr) → SoundLedger (ahead p q l) → FitsAt p s q v l
    → (heap_of l' q.task).worker ≡ Some w → StoresOne (ahead p q l) (rested l' q.task) q.task z n o ro rv i c → StoresAt (with_belongings v q.task q.belongings) (with_belongings v' q.task g) (ahead p q l) q.task f fs a rv i c → ref_of f ro ≡ Some a
    → FitsAt p s (part_for s q.task g 0) v' l'

abbrev pub NumbersFit : Type 0
NumbersFit =
    (p : ProgramText) (s : SettingsValue) (q : Part) (v v' : Memory) (l l' : Ledger) (g : Belongings) (w : ℕ) (z : Task) (n : Name) (o : Object) (ro rv i : ℕ) (f : CallFrame) (fs : List CallFrame) (a : Addr) → SoundLedger (ahead p q l) → FitsAt p s q v l
    → (heap_of l' q.task).worker ≡ Some w → StoresNumber (ahead p q l) (rested l' q.task) q.task z n o ro rv i → StoresNumberAt (with_belongings v q.task q.belongings) (with_belongings v' q.task g) q.task f fs a rv i → ref_of f ro ≡ Some a
    → FitsAt p s (part_for s q.task g 0) v' l'

abbrev pub QuietFitsAt : Type 0
QuietFitsAt =
    (p : ProgramText) (s : SettingsValue) (t : ℕ) (h g : Belongings) (v v' : Memory) (l l' : Ledger) → SameTasks l l' → SameObjects (with_belongings v t h) (with_belongings v' t g) (rested l t) (rested l' t)
    → FitsAt p s (part_for s t h 0) v l → FitsAt p s (part_for s t g 0) v' l'

-- a read of another task's object, an output: its own belongings are read correctly
abbrev pub StepsFit : Type 0
StepsFit =
    (p : ProgramText) (s : SettingsValue) (q : Part) (v v' : Memory) (l l' : Ledger) (g : Belongings) (w : ℕ) → SoundLedger (ahead p q l) → SoundLedger (rested l' q.task) → FitsAt p s q v l → (heap_of l' q.task).worker ≡ Some w
    → StepsAlone (ahead p q l) (rested l' q.task) q.task → is_waiting (slice_get (ahead p q l).machine.tasks q.task) ≡ false → StepsInBelongings (with_belongings v q.task q.belongings) (with_belongings v' q.task g) q.task → BelongingsAreRead (with_belongings v' q.task g) (rested l' q.task) q.task
    → FitsAt p s (part_for s q.task g 0) v' l'

-- the end of a copy's collection, for others
abbrev pub CopiesLeave : Type 0
CopiesLeave =
    (p : ProgramText) (s : SettingsValue) (t : ℕ) (h h' : Belongings) (f : Addr → Addr) (v v' : Memory) (l : Ledger) (x : Task) (hs : Heap) → LedgerIsKnown l → LedgerIsKnown (with_heap l t (collected l.machine)) → slice_get l.machine.tasks t ≡ Some x → x.status ≡ Running → slice_get l.heaps t ≡ Some hs
    → CopyFits p s t h h' f v l → EndsAt v v' t h' f → (r : Part) (y : Task) → RunsWithPart l r y → (t ≡ r.task → ⊥) → FitsAt p s r v l → FitsAt p s r v' (with_heap l t (collected l.machine))

abbrev pub NotesAhead : Type 0
NotesAhead =
    (p : ProgramText) (s : SettingsValue) (q : Part) (v : Memory) (l : Ledger) (x : Task) → LedgerIsKnown l → FitsAt p s q v l → RunsWithPart l q x → AllNoted v l → AllNoted (with_belongings v q.task q.belongings) (ahead p q l)

abbrev pub NotesBack : Type 0
NotesBack =
    (t : ℕ) (g : Belongings) (v : Memory) (l : Ledger) → is_waiting (slice_get l.machine.tasks t) ≡ false → MemoryStands (with_belongings v t g) (rested l t) → AllNoted (with_belongings v t g) (rested l t) → AllNoted v l
