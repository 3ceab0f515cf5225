use Rattle.copying_gc.proofs.Common.{ap, sym, with_chunks}
use Rattle.copying_gc.proofs.NoLarge.{none_led}
use Rattle.copying_gc.proofs.redirect.follow_larges.Goals as goal

pub returns-then-has_small_alone : goal.returns-then-has_small_alone
returns-then-has_small_alone c = ap (with_chunks c.args.heap.now) (sym (none_led c.args.heap.now.chunks c.args.found.now (c.has_small_alone.ensures c.if-has_small_alone.true) c.requires))
