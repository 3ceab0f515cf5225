-- A part that was copied fits the shared value for the end of its collection.
use Rattle.std.specs.Prelude.{◌≡◌, ℕ, Some, List, map}
use Rattle.leaf_collections.specs.below.object_layout.{ChunkValue, number_of, Addr}
use Rattle.leaf_collections.specs.below.leaf_heap.{LeafHeapValue}
use Rattle.leaf_collections.specs.below.task_frames.{FramesValue}
use Rattle.leaf_collections.specs.below.copying_gc.{Moved, ToChunks, CanTake, IsCollected}
use Rattle.leaf_collections.specs.below.task_machine.{Begun, Private}
use Rattle.leaf_collections.specs.below.core_invariant.{WorkerPartFits, CopyingHasBegun, IsSharedValue, SharedValue}
use Rattle.leaf_collections.specs.LeafEnd.{FitsCopied}

-- a part that fits with its begun collection, before the run's end, and the chunks that this took
pub record IsCopying (w : SharedValue) (worker : ℕ) (p : Private) (b : Begun) (news : List ChunkValue) : Type 0 where
  pub shared : IsSharedValue w
  pub fits : WorkerPartFits w worker p
  pub fresh : p.fresh ≡ 0
  pub begun : p.begun ≡ Some b
  pub new : CanTake p.heap.chunks news
  pub numbers : b.news ≡ map (λ k. k.number) news

abbrev pub CopiedFits : Type 0
CopiedFits =
    (w : SharedValue) (worker : ℕ) (p : Private) (b : Begun) (news : List ChunkValue) → IsCopying w worker p b news
    → (h' : LeafHeapValue) (frames' : FramesValue) (out : Moved) → IsCollected p.heap p.frames b.roots news h' frames' out → FitsCopied w worker (record p { heap = h'; frames = frames' }) out

-- a part that has just begun its collection is so
abbrev pub BegunIsCopying : Type 0
BegunIsCopying =
    (w : SharedValue) (worker : ℕ) (old new : Private) (roots : List Addr) (to : ToChunks) → CopyingHasBegun old new roots to → IsSharedValue w → WorkerPartFits w worker new → new.fresh ≡ 0
    → IsCopying w worker new (record { roots = roots; news = map number_of to.chunks.items }) to.chunks.items
