use Rattle.gc_pacer.proofs.Common.{List, subst, TaskNode, IsForkIn, fork_is}
use Rattle.gc_pacer.proofs.forks_of.fork_of.Goals as goal

pub returns : goal.returns
returns c = fork_is c.args.shared.now c.stands.ensures c.requires c.args.t c.fork_in.result (subst (λ (ns : List TaskNode). IsForkIn ns c.args.t c.fork_in.result) c.tree.ensures c.fork_in.ensures)
