use Rattle.copying_gc.proofs.Common.{◌≡◌, take, counted32, unit_count}
use Rattle.copying_gc.proofs.exchange.units_of.Given as goal

abbrev pub invariant-loop-chunk : goal.invariant-loop-chunk
invariant-loop-chunk l = l.units ≡ counted32 (unit_count (take l.chunk-index l.chunks))
