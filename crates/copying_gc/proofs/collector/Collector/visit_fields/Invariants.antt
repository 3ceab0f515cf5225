use Rattle.copying_gc.proofs.Common.{◌≡◌, take, fold, All, IsObject, cell_of, place_in, visited_reference, IsTarget}
use Rattle.copying_gc.proofs.collector.Collector.visit_fields.Given as goal

abbrev pub invariant-loop-field : goal.invariant-loop-field
invariant-loop-field l = record {
  visited : l.self ≡ fold visited_reference l.fn.self (take l.field (cell_of l.fn.self.heap.chunks l.object).refs);
  place : place_in l.self.heap.chunks l.object.chunk ≡ place_in l.fn.self.heap.chunks l.object.chunk;
  object : IsObject (cell_of l.self.heap.chunks l.object).mark;
  refs : (cell_of l.self.heap.chunks l.object).refs ≡ (cell_of l.fn.self.heap.chunks l.object).refs;
  targets : All (IsTarget l.self.heap.chunks) (cell_of l.fn.self.heap.chunks l.object).refs;
}
