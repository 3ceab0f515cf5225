-- The result of a leaf collection on a part: the belongings before and after it, and its map of addresses.
use Rattle.std.specs.Prelude.{◌≡◌, ℕ, ◌≤◌, pos, All, Some, None, List, Option, length, map, slice_get}
use Rattle.leaf_collections.specs.below.hh_lang.{ProgramText}
use Rattle.leaf_collections.specs.below.hh_model.{Running, Task}
use Rattle.leaf_collections.specs.below.run_trace.{SettingsValue}
use Rattle.leaf_collections.specs.below.run_ledger.{Ledger, end_numbers, heap_of, units_in}
use Rattle.leaf_collections.specs.below.object_layout.{Addr, ChunkValue, HeapIsClosed, IsSoundReference}
use Rattle.leaf_collections.specs.below.leaf_heap.{LeafHeapValue}
use Rattle.leaf_collections.specs.below.chunk_list.{Level}
use Rattle.leaf_collections.specs.below.task_frames.{FramesValue}
use Rattle.leaf_collections.specs.below.copying_gc.{Moved, CanTake, IsCollected, new_address, as_reference, outside}
use Rattle.leaf_collections.specs.below.task_machine.{Begun}
use Rattle.leaf_collections.specs.below.refinement.{Belongings, In, Memory, CopyFits, PartFits, part_before}
use Rattle.leaf_collections.specs.below.core_invariant.{HeapForm, frames_down, belongings_with}

-- the belongings of a part, with the collection that it has begun, or none
abbrev pub part_belongings : LeafHeapValue → List Level → ℕ → FramesValue → Option Begun → Belongings
part_belongings h view count s begun = record (belongings_with h view count (frames_down s) (pos 0, None)) { begun = begun }

-- a part of t, with the collection b that it has begun, fits; its heap h has the form of every heap, and the new chunks
-- are those that the collection took
pub record CollectionHasBegun (p : ProgramText) (s : SettingsValue) (t : ℕ) (h : LeafHeapValue) (view : List Level) (count : ℕ) (frames : FramesValue) (b : Begun) (news : List ChunkValue) (v : Memory) (l : Ledger) : Type 0 where
  pub form : HeapForm h
  pub fits : PartFits p s (part_before s t (part_belongings h view count frames (Some b))) v l
  pub new : CanTake h.chunks news
  pub took : (k : ChunkValue) → In news k → In b.news k.number
  pub all : length b.news ≡ length news

-- THE COPY fits for the end of the collection, and its heap has the form of every heap again
abbrev pub CopiesFit : Type 0
CopiesFit =
    (p : ProgramText) (s : SettingsValue) (t : ℕ) (h : LeafHeapValue) (view : List Level) (count : ℕ) (frames : FramesValue) (b : Begun) (news : List ChunkValue) (v : Memory) (l : Ledger) → CollectionHasBegun p s t h view count frames b news v l
    → (h' : LeafHeapValue) (frames' : FramesValue) (out : Moved) → IsCollected h frames b.roots news h' frames' out
    → CopyFits p s t (part_belongings h view count frames (Some b)) (part_belongings h' view count frames' None) (new_address out.moved.items) v l × HeapForm h'

-- its numbers are those that its entry should have, if the heap has no more units than a run may use
abbrev pub NumbersAreSaid : Type 0
NumbersAreSaid =
    (p : ProgramText) (s : SettingsValue) (t : ℕ) (h : LeafHeapValue) (view : List Level) (count : ℕ) (frames : FramesValue) (b : Begun) (news : List ChunkValue) (v : Memory) (l : Ledger) → CollectionHasBegun p s t h view count frames b news v l
    → units_in l.machine (heap_of l t) ≤ 65536 → (h' : LeafHeapValue) (frames' : FramesValue) (out : Moved) → IsCollected h frames b.roots news h' frames' out
    → ◌≡◌ {A = ℕ × ℕ × ℕ} (out.taken, out.given, out.left) (end_numbers l.machine (heap_of l t))

-- WHEN IT CAN BE COPIED, apart from its roots: each reference of its frames and of its objects into its heap leads to
-- an object there
pub record CanCopy (h : LeafHeapValue) (frames : FramesValue) (roots : List Addr) : Type 0 where
  pub closed : HeapIsClosed h.chunks
  pub outside : All (IsSoundReference h.chunks) (outside frames roots)

abbrev pub BegunCanCopy : Type 0
BegunCanCopy =
    (p : ProgramText) (s : SettingsValue) (t : ℕ) (h : LeafHeapValue) (view : List Level) (count : ℕ) (frames : FramesValue) (b : Begun) (news : List ChunkValue) (v : Memory) (l : Ledger) (x : Task) → CollectionHasBegun p s t h view count frames b news v l
    → slice_get l.machine.tasks t ≡ Some x → x.status ≡ Running → All (IsSoundReference h.chunks) (map as_reference b.roots) → CanCopy h frames b.roots
