use Rattle.ledger_heaps.proofs.Common.{◌≡◌, take, filter, flat_map, contains, is_name}
use Rattle.ledger_heaps.proofs.names.small_among.Given as goal

abbrev pub invariant-loop-names : goal.invariant-loop-names
invariant-loop-names l = l.found ≡ filter (contains is_name l.table) (flat_map (λ ns. ns) (take l.names-index l.heap.chunks))
