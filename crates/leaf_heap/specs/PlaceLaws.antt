-- What a put changes in a heap with a placed object.
use Rattle.std.specs.Prelude.{◌≡◌, ℕ, ◌<◌, All, List, length}
use Rattle.leaf_heap.specs.Common.{Addr, Cell, size_of, ChunkValue, words_in, cell_of, chunk_at, held_words, object_count, put_object, small_words}

-- the chunk has the same number, the same words in all, and as many of them in use
pub record KeepsShape (old new : ChunkValue) : Type 0 where
  pub number : new.number ≡ old.number
  pub size : new.size ≡ old.size
  pub used : words_in new.cells ≡ words_in old.cells

-- a write of fields keeps the counts
pub record SameChunkCounts (old new : List ChunkValue) : Type 0 where
  pub chunks : length new ≡ length old
  pub shape : (i : ℕ) → KeepsShape (chunk_at old i) (chunk_at new i)
  pub words : held_words new ≡ held_words old
  pub objects : object_count new ≡ object_count old
  pub small : small_words new ≡ small_words old

abbrev pub WritesKeepCounts : Type 0
WritesKeepCounts =
    (ks : List ChunkValue) (a : Addr) (c : Cell)
    → c.mark ≡ (cell_of ks a).mark → size_of c ≡ size_of (cell_of ks a) → SameChunkCounts ks (put_object ks a c)
