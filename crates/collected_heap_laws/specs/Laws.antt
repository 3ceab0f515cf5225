-- What is read in a heap after a collection.
use Rattle.std.specs.Prelude.{◌≡◌, ℕ, false, ◌++◌, List, None, Option, Contains, map, reverse}
use Rattle.std.specs.List.Sorted.{IsPermutation}
use Rattle.object_layout.specs.declared.word.Addr.{Addr}
use Rattle.object_layout.specs.ChunkValue.{ChunkValue}
use Rattle.object_layout.specs.Chunks.{cell_of, has_chunk}
use Rattle.leaf_heap.specs.LeafHeapValue.{LeafHeapValue, IsReserved, IsSettled}
use Rattle.copying_gc.specs.declared.lists.Survivor.{Survivor}
use Rattle.copying_gc.specs.Survivors.{olds}
use Rattle.copying_gc.specs.Laid.{is_moved}
use Rattle.remembered_set.specs.Moved.{new_of, ArePlaces}
use Rattle.copying_gc.specs.Redirected.{led_cell, redirected}
use Rattle.copying_gc.specs.Collected.{AreSurvivors, back_of, collected, moves_of, redirection}
use Rattle.copying_gc.specs.Laws.{CanTake}

-- a moved object is read at its new address as it was at the old one, under the same name, its references updated
abbrev pub MovedAreRead : Type 0
MovedAreRead =
    (h : LeafHeapValue) (from : List (Option Addr)) (ss : List Survivor) (news : List ChunkValue)
    → AreSurvivors h.chunks from ss → CanTake h.chunks news
    → (old new : Addr) → Contains (moves_of h.chunks ss (reverse news)) (old, new)
    → cell_of (collected h ss (reverse news)).chunks new ≡ led_cell (redirection h.chunks ss (reverse news)) (cell_of h.chunks old)

-- a large survivor is read where it was, unchanged except that its references are updated
abbrev pub LargeAreRead : Type 0
LargeAreRead =
    (h : LeafHeapValue) (from : List (Option Addr)) (ss : List Survivor) (news : List ChunkValue)
    → AreSurvivors h.chunks from ss → CanTake h.chunks news → IsSettled h.chunks → IsReserved h.chunks h.reserved
    → (a : Addr) → Contains (olds ss) a → is_moved h.chunks a ≡ false
    → cell_of (collected h ss (reverse news)).chunks a ≡ led_cell (redirection h.chunks ss (reverse news)) (cell_of h.chunks a)

-- the meaning of a relocation list, in any order: new addresses are addresses of objects, it maps old addresses as the
-- moves do, and an address outside the heap's chunks is unchanged
pub record TellsMoves (h : LeafHeapValue) (ss : List Survivor) (news : List ChunkValue) (moved : List (Addr × Addr)) : Type 0 where
  pub places : ArePlaces moved
  pub same : (a : Addr) → new_of moved a ≡ new_of (moves_of h.chunks ss (reverse news)) a
  pub leads : (r : Option Addr) → redirected moved r ≡ redirection h.chunks ss (reverse news) r
  pub outside : (a : Addr) → has_chunk h.chunks a.chunk ≡ false → new_of moved a ≡ None

abbrev pub MovesAreTold : Type 0
MovesAreTold =
    (h : LeafHeapValue) (from : List (Option Addr)) (ss : List Survivor) (news : List ChunkValue) (moved : List (Addr × Addr))
    → AreSurvivors h.chunks from ss → CanTake h.chunks news → IsPermutation (moves_of h.chunks ss (reverse news)) moved
    → TellsMoves h ss news moved

-- the numbers of chunks, each with the chunk's words in all
abbrev pub labels : List ChunkValue → List (ℕ × ℕ)
labels ks = map (λ k. (k.number, k.size)) ks

-- the chunks after a collection and those to release are together those before it and the new ones
abbrev pub NoChunkIsLost : Type 0
NoChunkIsLost =
    (h : LeafHeapValue) (ss : List Survivor) (news : List ChunkValue) → IsReserved h.chunks h.reserved
    → IsPermutation (labels (h.chunks ++ news)) (labels ((collected h ss (reverse news)).chunks ++ back_of h ss (reverse news)))
