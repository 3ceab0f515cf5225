-- The arguments of a collection, and its result.
use Rattle.std.specs.Prelude.{◌≡◌, ℕ, ◌+◌, ◌≤◌, List, [], length, map, reverse, vec_capacity}
use Rattle.std.specs.List.Sorted.{IsPermutation}
use Rattle.copying_gc.specs.Common.{Addr, ChunkValue, held_words, LeafHeapValue, with_places, FramesValue, frames_of, AreAscending}
use Rattle.copying_gc.specs.declared.lists.Moved.{Moved}
use Rattle.copying_gc.specs.declared.lists.Survivor.{Survivor}
use Rattle.copying_gc.specs.declared.lists.ToChunks.{ToChunks}
use Rattle.copying_gc.specs.Survivors.{live_count, outside}
use Rattle.copying_gc.specs.Redirected.{led_frame}
use Rattle.copying_gc.specs.Exchanged.{counted32, unit_count}
use Rattle.copying_gc.specs.Collected.{AreSurvivors, back_of, collected, laid_of, moves_of, redirection}

-- empty lists with capacity for all objects and chunks of a heap, and for that many new chunks
pub record HasReservedLists (h : LeafHeapValue) (chunks : ℕ) (to : ToChunks) : Type 0 where
  pub found : to.found.items ≡ []
  pub found_room : live_count h.chunks ≤ vec_capacity to.found
  pub moved : to.lists.moved.items ≡ []
  pub moved_room : live_count h.chunks ≤ vec_capacity to.lists.moved
  pub laid : to.laid.items ≡ []
  pub laid_room : chunks + length h.chunks ≤ vec_capacity to.laid
  pub back : to.lists.back.items ≡ []
  pub back_room : chunks + length h.chunks ≤ vec_capacity to.lists.back
  pub spare : chunks ≤ h.spare

-- a collection of a heap with these frames and roots into new chunks, of which the last is filled first
pub record IsCollected (h : LeafHeapValue) (s : FramesValue) (roots : List Addr) (news : List ChunkValue) (new : LeafHeapValue) (t : FramesValue) (out : Moved) : Type 0 where
  pub survivors : List Survivor
  pub are : AreSurvivors h.chunks (outside s roots) survivors
  pub heap : new ≡ with_places (collected h survivors (reverse news)) new.slots new.spare
  pub frames : frames_of t ≡ map (led_frame (redirection h.chunks survivors (reverse news))) (frames_of s)
  pub moved : IsPermutation (moves_of h.chunks survivors (reverse news)) out.moved.items
  pub order : AreAscending out.moved.items
  pub taken : out.taken ≡ counted32 (length (laid_of h survivors (reverse news)))
  pub given : out.given ≡ counted32 (unit_count out.back.items)
  pub left : out.left ≡ counted32 (held_words new.chunks)
  pub back : out.back.items ≡ back_of h survivors (reverse news)
