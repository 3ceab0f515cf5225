use Rattle.ledger_heaps.proofs.Common.{◌≡◌, ◌||◌, take, contains, Name, holds_name, is_name}
use Rattle.ledger_heaps.proofs.names.note_all.Given as goal

abbrev pub invariant-loop-name : goal.invariant-loop-name
invariant-loop-name l = (n : Name) → contains is_name l.table n ≡ contains is_name l.fn.table n || holds_name (take l.name-index l.names) n
