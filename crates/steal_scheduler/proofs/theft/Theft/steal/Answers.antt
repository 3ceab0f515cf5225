use Rattle.steal_scheduler.proofs.Rules.{steals}
use Rattle.steal_scheduler.proofs.theft.Theft.steal.Goals as goal

pub steal-requires-clause-takes : goal.steal-requires-clause-takes
steal-requires-clause-takes g c = steals _ _ c.args.self.now.steals

pub steal-requires-clause-few : goal.steal-requires-clause-few
steal-requires-clause-few g c = λ items views few holds at. record { items = items; views = views; port = _; few = few; dealt = holds; view_is = at }
