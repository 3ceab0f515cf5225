use Rattle.copying_gc.proofs.Common.{◌≡◌, take, saturating_words, CellsFitInChunks, used_words}
use Rattle.copying_gc.proofs.packed.used_words.Given as goal

abbrev pub invariant-loop-chunk : goal.invariant-loop-chunk
invariant-loop-chunk l = record {
  words : l.words ≡ saturating_words (used_words (take l.chunk-index l.chunks));
  within : CellsFitInChunks (take l.chunk-index l.chunks);
}
