use Rattle.copying_gc.proofs.Common.{ap, sym, with_chunks}
use Rattle.copying_gc.proofs.exchange.name_larges.Goals as goal

pub returns-else-are_large : goal.returns-else-are_large
returns-else-are_large c = ap (with_chunks c.args.heap.now) (sym (c.requires.none c.if-are_large.false))
