use Rattle.copying_gc.proofs.Common.{◌≡◌, take, fold, map, All, as_reference, visited_reference, IsTarget}
use Rattle.copying_gc.proofs.collector.Collector.visit_roots.Given as goal

abbrev pub invariant-loop-root : goal.invariant-loop-root
invariant-loop-root l = record {
  visited : l.self ≡ fold visited_reference l.fn.self (map as_reference (take l.root-index l.roots));
  targets : All (IsTarget l.self.heap.chunks) (map as_reference l.roots);
}
