use Rattle.memory_scenes.proofs.Common.{◌-◌, ◌<◌, ◌≤◌, IsCellAt}
use Rattle.memory_scenes.proofs.soundness.begins_at.Given as goal

abbrev pub invariant-loop-at : goal.invariant-loop-at
invariant-loop-at l = record {
  within : l.at ≤ l.used;
  begins : l.at < l.used → IsCellAt l.chunk.cells l.at;
}

abbrev pub decreases-loop-at : goal.decreases-loop-at
decreases-loop-at l = l.used - l.at
