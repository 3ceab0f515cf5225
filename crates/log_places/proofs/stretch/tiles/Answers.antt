use Rattle.std.proofs.Common.{drop, sym, ◌∙◌}
use Rattle.log_places.proofs.Ends.{tiles_done}
use Rattle.log_places.proofs.stretch.tiles.Goals as goal

pub returns-then-end-from : goal.returns-then-end-from
returns-then-end-from c =
    sym (tiles_done (drop c.loop-stretch.stretch-index c.args.stretches.now) c.loop-stretch.from c.args.end c.if-end-from.true) ∙ c.loop-stretch.invariant
