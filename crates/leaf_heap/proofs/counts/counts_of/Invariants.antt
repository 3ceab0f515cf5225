use Rattle.leaf_heap.proofs.Common.{◌≡◌, take, held_words, object_count, small_words, saturating_words, CellsFitInChunks}
use Rattle.leaf_heap.proofs.counts.counts_of.Given as goal

abbrev pub invariant-loop-chunk : goal.invariant-loop-chunk
invariant-loop-chunk l = record {
  words : l.words ≡ saturating_words (held_words (take l.chunk-index l.chunks));
  objects : l.objects ≡ saturating_words (object_count (take l.chunk-index l.chunks));
  small : l.small ≡ saturating_words (small_words (take l.chunk-index l.chunks));
  within : CellsFitInChunks (take l.chunk-index l.chunks);
}
