use Rattle.ledger_heaps.proofs.Common.{refl, flat_map, references_from_heaps}
use Rattle.ledger_heaps.proofs.Meets.{more_met, flat_append, flat_one}
use Rattle.ledger_heaps.proofs.reachable.follow_heaps.Goals as goal

pub loop-task-preserved : goal.loop-task-preserved
loop-task-preserved c =
    let f = references_from_heaps c.args.machine.now.store c.args.heaps.now c.args.but in
    more_met (flat_map f) f (flat_append f) (flat_one f) c.args.tasks.now c.loop-task.task-index _ _ c.loop-task-test.true refl _ _ _ _ _ _ c.loop-task.invariant c.in_ok-follow_heap.ensures
