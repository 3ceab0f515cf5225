use Rattle.mark_sweep_gc.proofs.Common.{◌≡◌, ◌-◌, ◌<◌, ◌≤◌, IsCellAt, cells_from, has_object, swept_cells, swept_chunk}
use Rattle.mark_sweep_gc.proofs.marking.Marking.leaves_object.Given as goal

abbrev pub invariant-loop-at : goal.invariant-loop-at
invariant-loop-at l = record {
  within : l.at ≤ l.used;
  begins : l.at < l.used → IsCellAt l.chunk.cells l.at;
  rest : has_object (swept_chunk l.self.found l.chunk).cells ≡ has_object (swept_cells l.self.found l.chunk.number l.at (cells_from l.chunk.cells l.at));
}

abbrev pub decreases-loop-at : goal.decreases-loop-at
decreases-loop-at l = l.used - l.at
