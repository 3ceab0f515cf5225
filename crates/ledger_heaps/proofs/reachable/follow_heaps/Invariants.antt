use Rattle.ledger_heaps.proofs.Common.{take, flat_map, contains, is_name, references_from_heaps, Meets}
use Rattle.ledger_heaps.proofs.reachable.follow_heaps.Given as goal

abbrev pub invariant-loop-task : goal.invariant-loop-task
invariant-loop-task l =
    Meets (flat_map (references_from_heaps l.machine.store l.heaps l.but) (take l.task-index l.tasks)) (contains is_name l.fn.search.unmet) (contains is_name l.search.unmet) l.fn.search.waiting l.search.waiting
