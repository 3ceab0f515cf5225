-- The laws of belongings and of what is kept: each change of a memory and of its accounts keeps the relation, and what
-- addresses reach is what names reach.
use Rattle.std.specs.Prelude.{◌≡◌, ℕ, ℤ, true, false, Option, Some, List, slice_get, ◌↔◌, []}
use Rattle.refinement.specs.Common.{Addr, Name, Running, Task, is_waiting, Ledger, heap_of, SoundLedger, Rests, ChangesHeap, SameTasks, JoinsTasks, TasksCanJoin, ForksTask}
use Rattle.refinement.specs.Memory.{Memory}
use Rattle.refinement.specs.ReadsReference.{ReadsReference}
use Rattle.refinement.specs.MemoryStands.{LiesWithOwner, MemoryStands}
use Rattle.refinement.specs.Changes.{KeepsJust, Moves, SameObjects, JoinsBelongings, ForksBelongings}
use Rattle.refinement.specs.Frames.{Collects}

-- EACH CHANGE KEEPS THE RELATION

abbrev pub ForksKeep : Type 0
ForksKeep =
    (v v' : Memory) (l l' : Ledger) (t a b g h : ℕ) (x : Task) → SoundLedger l → MemoryStands v l → x.status ≡ Running → Rests l t → ForksTask l l' t a b g h x → ForksBelongings v v' t a b g h → MemoryStands v' l'

abbrev pub JoinsKeep : Type 0
JoinsKeep =
    (v v' : Memory) (l l' : Ledger) (p c d : ℕ) (x : Task) (rl rr : ℤ × Option Name) (al ar : ℤ × Option Addr) → SoundLedger l → MemoryStands v l → JoinsTasks l l' p c d x rl rr → TasksCanJoin l p c d x → JoinsBelongings v v' p c d al ar
    → (al.0 ≡ rl.0) × ReadsReference (LiesWithOwner v l) al.1 rl.1 → (ar.0 ≡ rr.0) × ReadsReference (LiesWithOwner v l) ar.1 rr.1 → MemoryStands v' l'

abbrev pub CollectionsKeep : Type 0
CollectionsKeep =
    (v v' : Memory) (l l' : Ledger) (t : ℕ) (x : Task) (f : Addr → Addr) → SoundLedger l → MemoryStands v l → Collects l t x → ChangesHeap l l' t → Moves v v' l l' t (heap_of l t).survivors f → MemoryStands v' l'

abbrev pub SweepsKeep : Type 0
SweepsKeep =
    (v v' : Memory) (l l' : Ledger) (t : ℕ) → SoundLedger l → MemoryStands v l → is_waiting (slice_get l.machine.tasks t) ≡ true → Rests l t
    → ChangesHeap l l' t → KeepsJust v v' l l' t (heap_of l t).snapshot → MemoryStands v' l'

abbrev pub NothingMoves : Type 0
NothingMoves =
    (v v' : Memory) (l l' : Ledger) → MemoryStands v l → SameTasks l l' → SameObjects v v' l l' → MemoryStands v' l'
