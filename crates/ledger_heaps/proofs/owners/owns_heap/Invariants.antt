use Rattle.ledger_heaps.proofs.Common.{◌≡◌, ◌==◌, drop, flat_map, list_all, owner_of, small_in}
use Rattle.ledger_heaps.proofs.owners.owns_heap.Given as goal

abbrev pub invariant-loop-names : goal.invariant-loop-names
invariant-loop-names l =
    list_all (λ n. owner_of l.machine.tasks n.task == l.task) (flat_map (λ ns. ns) (drop l.names-index l.heap.chunks)) ≡ list_all (λ n. owner_of l.machine.tasks n.task == l.task) (small_in l.heap)
