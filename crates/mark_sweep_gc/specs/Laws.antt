-- What callers need to know of the snapshot, of a marking between two calls, and of a sweep.
use Rattle.std.specs.Prelude.{◌≡◌, ◌≤◌, ◌↔◌, ◌⊎◌, true, List, [], ◌++◌, Contains, length, if◌then◌else◌}
use Rattle.mark_sweep_gc.specs.Common.{Addr, IsObject, no_cell, ChunkValue, cell_of, object_of, HasObjectAt, HaveDistinctNumbers, LeafHeapValue}
use Rattle.mark_sweep_gc.specs.Snapshot.{Fork, IsInSnapshot, MarkStarts, object_count}
use Rattle.mark_sweep_gc.specs.MarkingValue.{has_address, marked_of, IsAllMarked, IsDone, IsMarking, IsOf, MarkingValue}
use Rattle.mark_sweep_gc.specs.Swept.{has_number, has_object, staying_of, chunk_number_at, swept}

-- the snapshot of a marking, from the roots as they are when it begins and what was kept, is what the roots at the fork
-- lead to: provided each start is among that, and each root at the fork is still a root or was kept
abbrev pub SnapshotIsOfRoots : Type 0
SnapshotIsOfRoots =
    (h : List ChunkValue) (first roots kept : List Addr)
    → let f : Fork = record { heap = h; roots = roots } in
    let g : Fork = record { heap = h; roots = first } in
    ((a : Addr) → MarkStarts f kept a → IsInSnapshot g [] a)
    → ((a : Addr) → MarkStarts g [] a → Contains roots a ⊎ Contains kept a)
    → (a : Addr) → IsInSnapshot f kept a ↔ IsInSnapshot g [] a

-- a marking stays one of the snapshot while more is kept
abbrev pub MarkingGoesOn : Type 0
MarkingGoesOn =
    (f : Fork) (kept more : List Addr) (m : MarkingValue)
    → m.followed ≤ length kept → IsMarking f kept m → IsMarking f (kept ++ more) m

-- and one of its heap while only fields are written and more is kept
abbrev pub MarkingStaysOf : Type 0
MarkingStaysOf =
    (g h : List ChunkValue) (kept more : List Addr) (m : MarkingValue)
    → ((a : Addr) → HasObjectAt g a → HasObjectAt h a) → object_count h ≡ object_count g → length h ≡ length g
    → IsOf g kept m → IsOf h (kept ++ more) m

-- if the whole snapshot is marked, all that was found is
abbrev pub AllMarkedIsDone : Type 0
AllMarkedIsDone =
    (f : Fork) (kept : List Addr) (m : MarkingValue) (h : List ChunkValue)
    → IsOf h kept m → IsMarking f kept m → IsAllMarked f kept m → IsDone m

-- after a heap is swept, what was marked is read unchanged, and nothing else is there
abbrev pub SweptAreRead : Type 0
SweptAreRead =
    (h : LeafHeapValue) (marked : List Addr) → HaveDistinctNumbers h.chunks
    → (a : Addr) → object_of (swept h marked).chunks a ≡ (if has_address marked a then object_of h.chunks a else no_cell)

-- if the whole snapshot is marked, a sweep leaves exactly that: each object there is in it, and all of it is there
abbrev pub SweptIsSnapshot : Type 0
SweptIsSnapshot =
    (f : Fork) (kept : List Addr) (m : MarkingValue) (h : LeafHeapValue) → HaveDistinctNumbers h.chunks
    → IsOf h.chunks kept m → IsMarking f kept m → IsAllMarked f kept m
    → (a : Addr) → (IsObject (cell_of (swept h (marked_of m)).chunks a).mark → IsInSnapshot f kept a) × (IsInSnapshot f kept a → HasObjectAt (swept h (marked_of m)).chunks a)

-- each chunk that a sweep leaves contains an object, except the reserved one
abbrev pub SweptChunksHold : Type 0
SweptChunksHold =
    (h : LeafHeapValue) (marked : List Addr) (k : ChunkValue) → Contains (staying_of h marked) k
    → (has_object k.cells ≡ true) ⊎ (has_number (chunk_number_at h.chunks h.reserved) k ≡ true)
