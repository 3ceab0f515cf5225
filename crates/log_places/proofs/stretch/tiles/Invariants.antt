use Rattle.log_places.proofs.Common.{◌≡◌, drop, tiles}
use Rattle.log_places.proofs.stretch.tiles.Given as goal

abbrev pub invariant-loop-stretch : goal.invariant-loop-stretch
invariant-loop-stretch l = tiles l.from l.end (drop l.stretch-index l.stretches) ≡ tiles l.start l.end l.stretches
