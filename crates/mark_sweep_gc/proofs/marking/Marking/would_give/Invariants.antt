use Rattle.mark_sweep_gc.proofs.Common.{◌≡◌, filter, take, counted32, unit_count, goes}
use Rattle.mark_sweep_gc.proofs.marking.Marking.would_give.Given as goal

abbrev pub invariant-loop-chunk : goal.invariant-loop-chunk
invariant-loop-chunk l = l.units ≡ counted32 (unit_count (filter (goes l.self.found l.reserved) (take l.chunk-index l.chunks)))
