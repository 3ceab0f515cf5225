-- The laws of leaf collections that have begun, of copies and of marks.
use Rattle.refinement_laws.specs.Common.{PartFits, CopyFits, EndsAt, part_before, Heap, Ledger, heap_of, with_heap, collected, held_in, left_in, is_name, SoundLedger, Addr, Located, ProgramText, SettingsValue, Running, Task, Name, MarksStand, Belongings, Memory, In, object_name, objects, Rests, rested, MemoryStands, with_belongings, Moves}
use Rattle.std.specs.List.{IsDistinct}
use Rattle.std.specs.Prelude.{◌≡◌, ℕ, true, Some, None, slice_get, ◌↔◌, List}

-- COPIES: the copy of a part fits only for the end of its collection

-- the end of the collection satisfies the law on collections, and after it the part fits
abbrev pub CopiesEnd : Type 0
CopiesEnd =
    (p : ProgramText) (s : SettingsValue) (t : ℕ) (h h' : Belongings) (f : Addr → Addr) (v v' : Memory) (l : Ledger) (x : Task) (hs : Heap) → SoundLedger l → slice_get l.machine.tasks t ≡ Some x → x.status ≡ Running → slice_get l.heaps t ≡ Some hs
    → CopyFits p s t h h' f v l → EndsAt v v' t h' f → h'.begun ≡ None → let l' : Ledger = with_heap l t (collected l.machine) in
    Moves (with_belongings v t h) (with_belongings v' t h') (rested l t) (rested l' t) t (heap_of (rested l t) t).survivors f × PartFits p s (part_before s t h') v' l'

-- MARKS: nothing is left to mark if and only if each object of the snapshot is marked, provided that the snapshot has
-- each name once, and all of it is held
abbrev pub MarksAreAll : Type 0
MarksAreAll =
    (v : Memory) (l : Ledger) (t : ℕ) (marked : List Addr) → MemoryStands v l → Rests l t → IsDistinct is_name (heap_of l t).snapshot → ((n : Name) → In (heap_of l t).snapshot n → In (held_in (heap_of l t)) n)
    → MarksStand v l t marked → left_in (heap_of l t) ≡ 0 ↔ ((q : Located) → In (objects v t) q → In (heap_of l t).snapshot (object_name q) → In marked q.at)
