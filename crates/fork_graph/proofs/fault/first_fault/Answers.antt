use Rattle.fork_graph.proofs.Common.{◌≡◌, length, subst, arith, strand, HasNoEarlier}
use Rattle.fork_graph.proofs.Sound.{sound_by}
use Rattle.fork_graph.proofs.fault.first_fault.Goals as goal

pub returns : goal.returns
returns c =
    let rows = c.args.tasks.now in
    let end : c.loop-task.task ≡ length rows = omega arith in
    sound_by rows c.args.extent c.in_ok-reached.reached c.in_ok-reached.ensures
    (subst (λ n. HasNoEarlier rows c.args.extent (strand n 0)) end c.loop-task.invariant.none)
