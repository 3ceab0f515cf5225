use Rattle.ledger_heaps.proofs.Common.{◌≡◌, ◌++◌, take, filter, contains, is_name}
use Rattle.ledger_heaps.proofs.names.keep_into.Given as goal

abbrev pub invariant-loop-name : goal.invariant-loop-name
invariant-loop-name l = l.found ≡ l.fn.found ++ filter (contains is_name l.table) (take l.name-index l.names)
