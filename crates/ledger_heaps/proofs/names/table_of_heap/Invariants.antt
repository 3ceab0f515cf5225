use Rattle.ledger_heaps.proofs.Common.{◌≡◌, take, flat_map, contains, Name, holds_name, is_name}
use Rattle.ledger_heaps.proofs.names.table_of_heap.Given as goal

abbrev pub invariant-loop-names : goal.invariant-loop-names
invariant-loop-names l = (n : Name) → contains is_name l.table n ≡ holds_name (flat_map (λ ns. ns) (take l.names-index l.heap.chunks)) n
