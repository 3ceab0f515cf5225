use Rattle.copying_gc.proofs.Common.{set, ◌∙◌, ap, sym, map_over_more, ChunkValue, followed_ref, led_chunk}
use Rattle.copying_gc.proofs.redirect.follow_chunks.Goals as goal

pub loop-chunk-preserved : goal.loop-chunk-preserved
loop-chunk-preserved c =
    let x : ChunkValue = c.chunk-item.result in
    let f = led_chunk (followed_ref c.args.heap.now.chunks) in
    ap (λ (k : ChunkValue). set c.loop-chunk.chunks c.loop-chunk.chunk-index k) (c.follow_chunk.ensures ∙ ap f (sym c.chunk-item.is))
    ∙ map_over_more f c.args.chunks.now c.loop-chunk.chunks c.loop-chunk.chunk-index x c.loop-chunk-test.true c.loop-chunk.invariant c.chunk-item.is
