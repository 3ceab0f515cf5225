use Rattle.copying_gc.proofs.Common.{◌≤◌, ◌∙◌, arith, take, take_more, All-push, ChunkValue, words_in, used_words}
use Rattle.leaf_heap.proofs.ChunkAdded as added
use Rattle.copying_gc.proofs.Packing as packing
use Rattle.copying_gc.proofs.packed.used_words.Goals as goal

pub loop-chunk-preserved : goal.loop-chunk-preserved
loop-chunk-preserved c =
    let ks = c.args.chunks.now in
    let i = c.loop-chunk.chunk-index in
    let k : ChunkValue = c.chunk-item.result in
    let next = take_more ks i k c.loop-chunk-test.true in
    let more = packing.used_more ks i k c.loop-chunk-test.true c.chunk-item.is in
    let sum = added.counted_more (used_words (take i ks)) (words_in k.cells) in
    let words = c.used.ensures.words in
    let most = c.used.ensures.within in
    let inside : words_in k.cells ≤ k.size = omega arith in
    record {
      words = c.saturating_add-words.ensures ∙ rw (c.loop-chunk.invariant.words, c.used.ensures.words, more) sum;
      within = rw (next, ← c.chunk-item.is) (All-push (λ (x : ChunkValue). words_in x.cells ≤ x.size) (take i ks) k c.loop-chunk.invariant.within inside);
    }
