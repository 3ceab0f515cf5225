use Rattle.heap_reading.proofs.Common.{◌≡◌, All, map, take, IsRef, word_of_ref, object_at}
use Rattle.heap_reading.proofs.seen.refs_at.Given as goal

abbrev pub invariant-loop-field : goal.invariant-loop-field
invariant-loop-field l = record {
  refs : l.refs ≡ map word_of_ref (take l.field (object_at l.chunk.cells l.at).refs);
  near : All IsRef (take l.field (object_at l.chunk.cells l.at).refs);
}
