use Rattle.log_walk.proofs.Common.{◌↔◌, IsTrue, subst, tasks_in, StrandPrecedes, strand_at, WalkValue}
use Rattle.log_walk.proofs.walk.SerialWalk.precedes.Goals as goal

pub returns : goal.returns
returns c =
    subst (λ (v : WalkValue). IsTrue c.precedes.result ↔ StrandPrecedes (tasks_in v.tasks) (strand_at v.order c.args.first) (strand_at v.order c.args.second))
    c.self.view_is c.precedes.ensures
