use Rattle.object_layout.proofs.Common.{◌≡◌, ◌++◌, ◌-◌, ◌<◌, ◌≤◌, starts_from, starts_in, IsCellAt, cells_from}
use Rattle.object_layout.proofs.piece.starts_of.Given as goal

abbrev pub invariant-loop-at : goal.invariant-loop-at
invariant-loop-at l = record {
  end : l.at ≤ l.used;
  begins : l.at < l.used → IsCellAt l.chunk.cells l.at;
  starts : starts_in l.chunk.cells ≡ l.starts.items ++ starts_from l.at (cells_from l.chunk.cells l.at);
}

abbrev pub decreases-loop-at : goal.decreases-loop-at
decreases-loop-at l = l.used - l.at
