use Rattle.heap_reading.proofs.Common.{◌≡◌, All, take, FitsSigned, w64, object_at}
use Rattle.heap_reading.proofs.seen.ints_at.Given as goal

abbrev pub invariant-loop-field : goal.invariant-loop-field
invariant-loop-field l = record {
  ints : l.ints ≡ take l.field (object_at l.chunk.cells l.at).ints;
  fit : All (FitsSigned w64) (take l.field (object_at l.chunk.cells l.at).ints);
}
