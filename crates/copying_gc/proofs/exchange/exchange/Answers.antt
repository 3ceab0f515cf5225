use Rattle.copying_gc.proofs.Common.{filter, stays}
use Rattle.copying_gc.proofs.Packing as packing
use Rattle.copying_gc.proofs.exchange.exchange.Goals as goal

pub put_counted-requires-clause-counted : goal.put_counted-requires-clause-counted
put_counted-requires-clause-counted c =
    λ no.
    packing.counted_still c.args.laid.items (filter stays c.take_chunks-old.result.items) c.part-any.new.laid.items c.args.counts c.part-any.ensures.laid (c.part-any.ensures.none no) c.requires.counted

pub put_counted-requires-in-Some-clause-counted : goal.put_counted-requires-in-Some-clause-counted
put_counted-requires-in-Some-clause-counted c =
    λ no.
    packing.counted_empty c.part-any-in-Some.new.laid.items c.push_reserved.new.self.items c.remove-kept.result c.args.counts c.push_reserved.ensures.items
    (packing.kept_empty c.args.heap.now.chunks c.take_chunks-old.result.items c.args.reserved c.in-Some.i c.remove-kept.result c.requires.empty c.in-Some.is c.take_chunks-old.ensures.chunks c.remove-kept.ensures.value)
    (packing.counted_still c.args.laid.items (filter stays c.remove-kept.new.self.items) c.part-any-in-Some.new.laid.items c.args.counts c.part-any-in-Some.ensures.laid (c.part-any-in-Some.ensures.none no) c.requires.counted)
