use Rattle.ledger_heaps.proofs.Common.{◌≡◌, take, filter, not, flat_map, contains, is_name}
use Rattle.ledger_heaps.proofs.reachable.met_in.Given as goal

abbrev pub invariant-loop-names : goal.invariant-loop-names
invariant-loop-names l = l.met ≡ filter (λ n. not (contains is_name l.unmet n)) (flat_map (λ ns. ns) (take l.names-index l.heap.chunks))
