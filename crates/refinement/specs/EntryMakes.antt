-- How an entry of steps changes the memory, by its last step: x is the task before it, line the line that it executes,
-- h the belongings of its part at that time (after it, if it is private), m the accounts.
use Rattle.std.specs.Prelude.{◌≡◌, ℕ, suc, ℤ, pos, ◌+◌, Option, Some, None, List, length}
use Rattle.refinement.specs.Common.{Addr, Instr, Putr, Puti, Cas, Line, ProgramText, Object, Task, place_in, int_in, Ledger, CallFrame, rested, LastKind, Private, Reading, Writing, Printing, Forking, Ending, Joining, Finishing, Halting, IsOfKind, ref_of}
use Rattle.refinement.specs.Memory.{Belongings, Memory}
use Rattle.refinement.specs.Fits.{with_belongings}
use Rattle.refinement.specs.Changes.{ForksBelongings, JoinsBelongings, EndsBelongings, StoresAt, StoresNumberAt, HasResult, StepsInBelongings, BelongingsAreRead}

-- a store of the register b into the field k of the object y, which another task owns and the register o names: the
-- field is found, and its worker holds the belongings g afterwards; c is the number register that the step sets
abbrev pub StoresInto : Memory → Memory → Ledger → ℕ → Belongings → Task → Object → ℕ → ℕ → ℕ → Option (ℕ × ℤ) → Type 0
StoresInto v v' m t h x y o k b c =
    (g : Belongings) × (i : ℕ) × (f : CallFrame) × (fs : List CallFrame) × (a : Addr) × (place_in (length y.refs) (int_in x.top k) ≡ Some i) × StoresAt (with_belongings v t h) (with_belongings v' t g) (rested m t) t f fs a b i c × (ref_of f o ≡ Some a)

-- a write of the object y
abbrev pub Stores : Memory → Memory → Ledger → ℕ → Belongings → Task → Object → Instr → Type 0
Stores v v' m t h x y (Putr o k b) = StoresInto v v' m t h x y o k b None
-- a compare and swap that finds what it expects
Stores v v' m t h x y (Cas d o k e b) = StoresInto v v' m t h x y o k b (Some (d, pos 1))
Stores v v' m t h x y (Puti o k b) =
    (g : Belongings) × (i : ℕ) × (f : CallFrame) × (fs : List CallFrame) × (a : Addr) × (place_in (length y.ints) (int_in x.top k) ≡ Some i) × StoresNumberAt (with_belongings v t h) (with_belongings v' t g) t f fs a b i × (ref_of f o ≡ Some a)
Stores v v' m t h x y _ = ⊥

-- how many steps the part has taken, of k private ones and a last one: also that one, if it is private
abbrev pub taken_by : LastKind → ℕ → ℕ
taken_by Private k = suc k
taken_by _ k = k

abbrev pub EntryMakes : (p : ProgramText) → Memory → Memory → (m l' : Ledger) → (t : ℕ) → Belongings → (x : Task) → (line : Line) → (kind : LastKind) → IsOfKind p m l' t x line kind → Type 0
EntryMakes p v v' m l' t h x line Private K = v' ≡ v
EntryMakes p v v' m l' t h x line Reading K = v' ≡ v
EntryMakes p v v' m l' t h x line Writing K = Stores v v' m t h x K.object line.instr
EntryMakes p v v' m l' t h x line Printing K = v' ≡ v
EntryMakes p v v' m l' t h x line Forking K = ForksBelongings (with_belongings v t h) v' t (length m.machine.tasks) (length m.machine.tasks + 1) K.left K.right
EntryMakes p v v' m l' t h x line Ending K = (f : CallFrame) × (fs : List CallFrame) × EndsBelongings (with_belongings v t h) v' t f fs
EntryMakes p v v' m l' t h x line Joining K =
    (al : ℤ × Option Addr) × (ar : ℤ × Option Addr) × JoinsBelongings (with_belongings v t h) v' K.parent K.left (K.left + 1) al ar
    × HasResult (with_belongings v t h) (rested m t) K.left K.left_result al × HasResult (with_belongings v t h) (rested m t) (K.left + 1) K.right_result ar
-- the root is returned
EntryMakes p v v' m l' t h x line Finishing K = (f : CallFrame) × (fs : List CallFrame) × EndsBelongings (with_belongings v t h) v' t f fs
EntryMakes p v v' m l' t h x line Halting K = v' ≡ v

-- THE BELONGINGS OF ITS PART after the entry, if the worker goes on with the task

abbrev pub BelongingsAfterStore : (v v' : Memory) (m : Ledger) (t : ℕ) (h : Belongings) (x : Task) (y : Object) (instr : Instr) → Stores v v' m t h x y instr → Belongings → Type 0
BelongingsAfterStore v v' m t h x y (Putr o k b) C g = g ≡ C.0
BelongingsAfterStore v v' m t h x y (Cas d o k e b) C g = g ≡ C.0
BelongingsAfterStore v v' m t h x y (Puti o k b) C g = g ≡ C.0
BelongingsAfterStore v v' m t h x y _ C g = ⊥

-- its objects stay, and it is read correctly
abbrev pub StepsTo : Memory → Ledger → ℕ → Belongings → Belongings → Type 0
StepsTo v l' t h g = StepsInBelongings (with_belongings v t h) (with_belongings v t g) t × BelongingsAreRead (with_belongings v t g) (rested l' t) t × (g.begun ≡ h.begun)

abbrev pub BelongingsAfter : (p : ProgramText) (v v' : Memory) (m l' : Ledger) (t : ℕ) (h : Belongings) (x : Task) (line : Line) (kind : LastKind) (K : IsOfKind p m l' t x line kind) → EntryMakes p v v' m l' t h x line kind K → Belongings → Type 0
BelongingsAfter p v v' m l' t h x line Private K C g = g ≡ h
BelongingsAfter p v v' m l' t h x line Reading K C g = StepsTo v l' t h g
BelongingsAfter p v v' m l' t h x line Writing K C g = BelongingsAfterStore v v' m t h x K.object line.instr C g
BelongingsAfter p v v' m l' t h x line Printing K C g = StepsTo v l' t h g
BelongingsAfter p v v' m l' t h x line Halting K C g = g ≡ h
BelongingsAfter p v v' m l' t h x line _ K C g = ⊥
