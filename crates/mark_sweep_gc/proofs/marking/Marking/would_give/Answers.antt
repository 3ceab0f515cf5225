use Rattle.mark_sweep_gc.proofs.Common.{◌∙◌, ◌+◌, List, [], ◌∷◌, ◌++◌, ap, filter, sym, take, take_more, ChunkValue, counted32, unit_count, goes}
use Rattle.mark_sweep_gc.proofs.Giving as giving
use Rattle.mark_sweep_gc.proofs.marking.Marking.would_give.Goals as goal

pub loop-chunk-preserved : goal.loop-chunk-preserved
loop-chunk-preserved c =
    let ks : List ChunkValue = c.chunks-chunks.result.now in
    let k : ChunkValue = c.chunk-item.result in
    let p = goes c.args.self.now.found c.number_of-reserved.result in
    let more = take_more ks c.loop-chunk.chunk-index k c.loop-chunk-test.true in
    let sum = giving.counted_more p (take c.loop-chunk.chunk-index ks) k c.loop-chunk.units c.saturating_add-units.result c.loop-chunk.invariant
    (c.saturating_add-units.ensures ∙ ap (λ n. counted32 (c.loop-chunk.units + n)) c.units_gone.ensures) in
    sum ∙ ap (λ (x : ChunkValue). counted32 (unit_count (filter (goes c.args.self.now.found c.number_of-reserved.result) (take c.loop-chunk.chunk-index ks ++ x ∷ [])))) c.chunk-item.is
    ∙ ap (λ (xs : List ChunkValue). counted32 (unit_count (filter (goes c.args.self.now.found c.number_of-reserved.result) xs))) (sym more)
