-- What is checked before a collection.
use Rattle.std.specs.Prelude.{ℕ, ◌≤◌, List, Option, All}
use Rattle.memory_scenes.specs.below.object_layout.{Addr, object_of}
use Rattle.memory_scenes.specs.below.leaf_heap.{LeafHeapValue, IsFresh}
use Rattle.memory_scenes.specs.below.task_frames.{FramesValue}
use Rattle.copying_gc.specs.Survivors.{HeapIsClosed, IsSoundReference, outside}
use Rattle.copying_gc.specs.Laid.{small_words}

-- the precondition of a collection into one new chunk with this number
pub record CanCollect (h : LeafHeapValue) (s : FramesValue) (roots : List Addr) (number : ℕ) : Type 0 where
  pub closed : HeapIsClosed h.chunks
  pub outside : All (IsSoundReference h.chunks) (outside s roots)
  pub fresh : IsFresh h.chunks number
  pub few : small_words h.chunks ≤ 1024

-- the references of the object at an address
abbrev pub fields_of : LeafHeapValue → Addr → List (Option Addr)
fields_of h a = (object_of h.chunks a).refs
