use Rattle.heap_reading.proofs.Common.{sym, map_more, field_of}
use Rattle.heap_reading.proofs.noted.fields_of.Goals as goal

pub loop-source-preserved : goal.loop-source-preserved
loop-source-preserved c = record {
  fields = rw (c.in_ok-push.ensures.items, c.loop-source.invariant.fields, c.number_of.ensures) (sym (map_more field_of c.args.sources.now c.loop-source.source-index _ c.loop-source-test.true));
}
