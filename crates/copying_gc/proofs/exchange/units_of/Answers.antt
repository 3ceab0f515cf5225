use Rattle.copying_gc.proofs.Common.{◌∙◌, ap, take, units, unit_count}
use Rattle.copying_gc.proofs.Exchanges as exchanges
use Rattle.copying_gc.proofs.exchange.units_of.Goals as goal

pub loop-chunk-preserved : goal.loop-chunk-preserved
loop-chunk-preserved c =
    let more = exchanges.unit_more c.args.chunks.now c.loop-chunk.chunk-index c.chunk-item.result c.loop-chunk-test.true c.chunk-item.is in
    let sum = exchanges.counted_more (unit_count (take c.loop-chunk.chunk-index c.args.chunks.now)) (units c.chunk-item.result.size) in
    c.saturating_add-units.ensures ∙ rw (c.loop-chunk.invariant, c.units.ensures ∙ ap units c.size.ensures, more) sum
