-- How an entry of steps changes what is noted, by its last step, beside what it changes in the memory.
use Rattle.std.specs.Prelude.{ℕ, ◌+◌, List, length}
use Rattle.refinement.specs.Common.{Addr, Instr, Putr, Puti, Cas, Line, ProgramText, Object, Task, Ledger, rested, LastKind, Private, Reading, Writing, Printing, Forking, Ending, Joining, Finishing, Halting, IsOfKind}
use Rattle.refinement.specs.Memory.{Belongings, Memory}
use Rattle.refinement.specs.LeafCollectionBegins.{AreRoots}
use Rattle.refinement.specs.Fits.{with_belongings}
use Rattle.refinement.specs.Since.{ForksNotes, JoinsNotes, OthersNotes, StoresNotes}
use Rattle.refinement.specs.EntryMakes.{Stores, EntryMakes}

-- a store of a reference keeps what it overwrites, a store of a number nothing
abbrev pub StoreMarks : (v v' : Memory) (m : Ledger) (t : ℕ) (h : Belongings) (x : Task) (y : Object) (instr : Instr) → Stores v v' m t h x y instr → Type 0
StoreMarks v v' m t h x y (Putr o k b) C = StoresNotes (with_belongings v t h) (with_belongings v' t C.0) t C.4 C.1
StoreMarks v v' m t h x y (Cas d o k e b) C = StoresNotes (with_belongings v t h) (with_belongings v' t C.0) t C.4 C.1
StoreMarks v v' m t h x y (Puti o k b) C = OthersNotes (with_belongings v t h) (with_belongings v' t C.0) t
StoreMarks v v' m t h x y _ C = ⊥

abbrev pub Marks : (p : ProgramText) (v v' : Memory) (m l' : Ledger) (t : ℕ) (h : Belongings) (x : Task) (line : Line) (kind : LastKind) (K : IsOfKind p m l' t x line kind) → EntryMakes p v v' m l' t h x line kind K → Type 0
Marks p v v' m l' t h x line Private K C = Unit {0}
Marks p v v' m l' t h x line Reading K C = Unit {0}
Marks p v v' m l' t h x line Writing K C = StoreMarks v v' m t h x K.object line.instr C
Marks p v v' m l' t h x line Printing K C = Unit {0}
-- from a fork on, what is overwritten is kept; the roots of the heap are known then
Marks p v v' m l' t h x line Forking K C =
    (roots : List Addr) × AreRoots (with_belongings v t h) (rested m t) t roots × ForksNotes (with_belongings v t h) v' t (length m.machine.tasks) (length m.machine.tasks + 1)
Marks p v v' m l' t h x line Ending K C = OthersNotes (with_belongings v t h) v' t
Marks p v v' m l' t h x line Joining K C = JoinsNotes (with_belongings v t h) v' K.parent K.left (K.left + 1)
Marks p v v' m l' t h x line Finishing K C = OthersNotes (with_belongings v t h) v' t
Marks p v v' m l' t h x line Halting K C = Unit {0}
