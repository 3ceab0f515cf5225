use Rattle.memory_scenes.proofs.Common.{◌-◌, ◌<◌, ◌≤◌, All, IsCellAt, cells_from, HasSoundReferences}
use Rattle.memory_scenes.proofs.cells.is_fit_chunk.Given as goal

abbrev pub invariant-loop-at : goal.invariant-loop-at
invariant-loop-at l = record {
  within : l.at ≤ l.used;
  begins : l.at < l.used → IsCellAt l.chunk.cells l.at;
  fit : All (HasSoundReferences l.heap.chunks) (cells_from l.chunk.cells l.at) → All (HasSoundReferences l.heap.chunks) l.chunk.cells;
}

abbrev pub decreases-loop-at : goal.decreases-loop-at
decreases-loop-at l = l.used - l.at
