-- Counts of what chunks hold.
use Rattle.std.specs.Prelude.{◌≡◌, List}
use Rattle.leaf_heap.specs.Common.{ChunkValue, held_words, object_count, small_words}
use Rattle.leaf_heap.specs.LeafHeapValue.{saturating_words, CellsFitInChunks}
use Rattle.leaf_heap.specs.declared.counts.Counts.{Counts}

-- these are the saturating counts of these chunks, and all their words are inside them
pub record AreCounted (ks : List ChunkValue) (n : Counts) : Type 0 where
  pub words : n.words ≡ saturating_words (held_words ks)
  pub objects : n.objects ≡ saturating_words (object_count ks)
  pub small : n.small ≡ saturating_words (small_words ks)
  pub within : CellsFitInChunks ks
