use Rattle.copying_gc.proofs.Common.{◌≡◌, take, fold, All, visited_reference, IsTarget}
use Rattle.copying_gc.proofs.collector.Collector.visit_all.Given as goal

abbrev pub invariant-loop-reference : goal.invariant-loop-reference
invariant-loop-reference l = record {
  visited : l.self ≡ fold visited_reference l.fn.self (take l.reference-index l.references);
  targets : All (IsTarget l.self.heap.chunks) l.references;
}
