use Rattle.mark_sweep_gc.proofs.Common.{◌≡◌, ◌-◌, ◌<◌, ◌≤◌, IsCellAt}
use Rattle.mark_sweep_gc.proofs.Sweeping.{before}
use Rattle.mark_sweep_gc.proofs.marking.Marking.sweep_chunk.Given as goal

abbrev pub invariant-loop-at : goal.invariant-loop-at
invariant-loop-at l = record {
  chunk : l.chunk ≡ record l.fn.chunk { cells = before l.self.found l.fn.chunk.number 0 l.fn.chunk.cells l.at };
  within : l.at ≤ l.used;
  begins : l.at < l.used → IsCellAt l.fn.chunk.cells l.at;
}

abbrev pub decreases-loop-at : goal.decreases-loop-at
decreases-loop-at l = l.used - l.at
