use Rattle.ledger_heaps.proofs.Common.{◌+◌, length, contains, hash_set_len, is_name, heap_of, held_in, roots_of, accounts}
use Rattle.ledger_heaps.proofs.Sought.{Sought}
use Rattle.ledger_heaps.proofs.reachable.explore.Given as goal

abbrev pub invariant-loop-name : goal.invariant-loop-name
invariant-loop-name l =
    Sought l.machine.store (held_in (heap_of (accounts l.machine l.heaps) l.t)) (roots_of (accounts l.machine l.heaps) l.t) (contains is_name l.search.unmet) l.search.waiting

abbrev pub decreases-loop-name : goal.decreases-loop-name
decreases-loop-name l = hash_set_len l.search.unmet + length l.search.waiting
