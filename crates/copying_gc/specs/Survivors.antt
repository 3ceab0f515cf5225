-- The objects of a heap that a collection keeps.
use Rattle.std.specs.Prelude.{◌≡◌, ℕ, ◌+◌, List, [], ◌∷◌, ◌++◌, Option, Some, Contains, map, All}
use Rattle.std.specs.List.{flat_map}
use Rattle.std.specs.Ordering.{nat_cmp, ordering_then}
use Rattle.std.specs.declared.cmp.Ordering.{Ordering}
use Rattle.copying_gc.specs.Common.{Addr, Born, Cell, Hole, Mark, Moved, ChunkValue, cell_of, LeafHeapValue, CallFrame, FramesValue, frames_of, IsReached}
pub use Rattle.object_layout.specs.Graph.{HeapIsClosed, HasObjectAt, IsSoundReference, RefersTo}
use Rattle.copying_gc.specs.declared.lists.Survivor.{Survivor}

-- the references that frames hold, and the roots
abbrev pub references_in : CallFrame → List (Option Addr)
references_in f = f.refs

abbrev pub frame_references : List CallFrame → List (Option Addr)
frame_references fs = flat_map references_in fs

abbrev pub as_reference : Addr → Option Addr
as_reference a = Some a

abbrev pub outside : FramesValue → List Addr → List (Option Addr)
outside s roots = frame_references (frames_of s) ++ map as_reference roots

-- these references refer to a
abbrev pub CopyStarts : List ChunkValue → List (Option Addr) → Addr → Type 0
CopyStarts h from a = HasObjectAt h a × Contains from (Some a)

-- references from outside, and then those within the heap, lead to a
abbrev pub IsSurvivor : List ChunkValue → List (Option Addr) → Addr → Type 0
IsSurvivor h from a = IsReached (CopyStarts h from) (RefersTo h) a

abbrev pub old_of : Survivor → Addr
old_of s = s.old

abbrev pub olds : List Survivor → List Addr
olds found = map old_of found

-- each has the birth name that it had in the heap
abbrev pub HaveNames : List ChunkValue → List Survivor → Type 0
HaveNames h found = All (λ s. (cell_of h s.old).mark ≡ Born s.birth) found

-- the order of survivors: by birth name, and then by address
abbrev pub survivor_order : Survivor → Survivor → Ordering
survivor_order x y =
    ordering_then (ordering_then (nat_cmp x.birth.task y.birth.task) (nat_cmp x.birth.count y.birth.count))
    (ordering_then (nat_cmp x.old.chunk y.old.chunk) (nat_cmp x.old.offset y.old.offset))

-- how many objects of these cells, and of a heap, have their birth names
abbrev pub born_of : Mark → ℕ
born_of (Born b) = 1
born_of (Moved to) = 0
born_of Hole = 0

abbrev pub born_in : List Cell → ℕ
born_in [] = 0
born_in (c ∷ cs) = born_of c.mark + born_in cs

abbrev pub live_count : List ChunkValue → ℕ
live_count [] = 0
live_count (k ∷ ks) = born_in k.cells + live_count ks

-- the heap with other chunks, and nothing else changed
abbrev pub with_chunks : LeafHeapValue → List ChunkValue → LeafHeapValue
with_chunks h ks = record h { chunks = ks }
