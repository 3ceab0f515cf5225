use Rattle.leaf_heap.proofs.Common.{◌∙◌, ◌≤◌, ◌+◌, ap, take, take_more, All-push, object_words_in, held_words, one_each, small_part, ChunkValue, words_in, saturating_words}
use Rattle.leaf_heap.proofs.HeapLemmas as heap
use Rattle.leaf_heap.proofs.ChunkAdded as added
use Rattle.leaf_heap.proofs.counts.counts_of.Goals as goal

pub loop-chunk-preserved : goal.loop-chunk-preserved
loop-chunk-preserved c =
    let ks = c.args.chunks.now in
    let i = c.loop-chunk.chunk-index in
    let k = c.chunk-item.result in
    let more = added.held_more ks i k c.loop-chunk-test.true c.chunk-item.is in
    let next = take_more ks i k c.loop-chunk-test.true in
    let sum = added.counted_more (held_words (take i ks)) (object_words_in k.cells) in
    record {
      words = c.saturating_add-words.ensures ∙ rw (c.loop-chunk.invariant.words, c.counts_in-more.ensures.words, more) sum;
      objects = heap.sum_more one_each ks i k c.loop-chunk-test.true c.chunk-item.is _ _ c.loop-chunk.invariant.objects (c.saturating_add-objects.ensures ∙ ap (λ n. saturating_words (c.loop-chunk.objects + n)) c.counts_in-more.ensures.objects);
      small = heap.sum_more small_part ks i k c.loop-chunk-test.true c.chunk-item.is _ _ c.loop-chunk.invariant.small (c.saturating_add-small.ensures ∙ ap (λ n. saturating_words (c.loop-chunk.small + n)) c.counts_in-more.ensures.small);
      within =
          rw (next, ← c.chunk-item.is)
          (All-push (λ (k : ChunkValue). words_in k.cells ≤ k.size) (take i ks) k c.loop-chunk.invariant.within c.counts_in-more.ensures.within);
    }
