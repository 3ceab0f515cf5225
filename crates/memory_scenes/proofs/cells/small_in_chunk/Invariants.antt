use Rattle.memory_scenes.proofs.Common.{◌≡◌, ◌+◌, ◌-◌, ◌<◌, ◌≤◌, IsCellAt, cells_from, small_in}
use Rattle.memory_scenes.proofs.cells.small_in_chunk.Given as goal

abbrev pub invariant-loop-at : goal.invariant-loop-at
invariant-loop-at l = record {
  within : l.at ≤ l.used;
  few : l.words ≤ l.at;
  begins : l.at < l.used → IsCellAt l.chunk.cells l.at;
  counted : small_in l.chunk.cells ≡ l.words + small_in (cells_from l.chunk.cells l.at);
}

abbrev pub decreases-loop-at : goal.decreases-loop-at
decreases-loop-at l = l.used - l.at
