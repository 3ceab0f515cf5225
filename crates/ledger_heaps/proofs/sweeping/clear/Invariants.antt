use Rattle.ledger_heaps.proofs.Common.{◌≡◌, ◌++◌, drop, map, in_snapshot, is_last_empty, without_empty}
use Rattle.ledger_heaps.proofs.Cleared.{ends_empty}
use Rattle.ledger_heaps.proofs.sweeping.clear.Given as goal

abbrev pub invariant-loop-names : goal.invariant-loop-names
invariant-loop-names l = record {
  chunks : l.chunks ++ without_empty (map (in_snapshot l.heap) (drop l.names-index l.heap.chunks)) ≡ without_empty (map (in_snapshot l.heap) l.heap.chunks);
  last : ends_empty l.is_last_empty (map (in_snapshot l.heap) (drop l.names-index l.heap.chunks)) ≡ is_last_empty (map (in_snapshot l.heap) l.heap.chunks);
}
