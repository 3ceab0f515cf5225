use Rattle.leaf_heap.proofs.Common.{◌≡◌, ◌+◌, ◌-◌, ◌<◌, ◌≤◌, object_words_in, one_each, small_part, sum_in, IsCellAt, cells_from}
use Rattle.leaf_heap.proofs.counts.counts_in.Given as goal

abbrev pub invariant-loop-at : goal.invariant-loop-at
invariant-loop-at l = record {
  end : l.at ≤ l.used;
  most_words : l.words ≤ l.at;
  most_objects : l.objects ≤ l.at;
  most_small : l.small ≤ l.at;
  begins : l.at < l.used → IsCellAt l.chunk.cells l.at;
  words : object_words_in l.chunk.cells ≡ l.words + object_words_in (cells_from l.chunk.cells l.at);
  objects : sum_in one_each l.chunk.cells ≡ l.objects + sum_in one_each (cells_from l.chunk.cells l.at);
  small : sum_in small_part l.chunk.cells ≡ l.small + sum_in small_part (cells_from l.chunk.cells l.at);
}

abbrev pub decreases-loop-at : goal.decreases-loop-at
decreases-loop-at l = l.used - l.at
