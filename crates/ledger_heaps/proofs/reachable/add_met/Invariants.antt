use Rattle.ledger_heaps.proofs.Common.{◌≡◌, ◌++◌, take, filter, not, contains, is_name}
use Rattle.ledger_heaps.proofs.reachable.add_met.Given as goal

abbrev pub invariant-loop-name : goal.invariant-loop-name
invariant-loop-name l = l.met ≡ l.fn.met ++ filter (λ n. not (contains is_name l.unmet n)) (take l.name-index l.names)
