use Rattle.steal_scheduler.proofs.Rules.{puts}
use Rattle.steal_scheduler.proofs.hand.Hand.put.Goals as goal

pub push-requires-2-clause-pushes : goal.push-requires-2-clause-pushes
push-requires-2-clause-pushes c = puts _ _ _ c.args.self.now.owner
