use Rattle.steal_scheduler.proofs.Common.{IfSome_then, if_none, got_item, Stole, StoleNone}
use Rattle.steal_scheduler.proofs.Lists.{changes_at}
use Rattle.steal_scheduler.proofs.hand.Hand.steal_from.Goals as goal

pub returns-clause-some : goal.returns-clause-some
returns-clause-some g c = IfSome_then c.steal.result c.steal.ensures.some (λ x did. changes_at c.args.self.now.thefts.items c.args.victim c.index_mut.result.now c.steal.new.self (Stole x) (got_item _ _ _ c.requires c.index_mut.ensures.value) c.steal.ensures.same did)

pub returns-clause-none : goal.returns-clause-none
returns-clause-none g c = if_none c.steal.result _ _ (λ did. changes_at c.args.self.now.thefts.items c.args.victim c.index_mut.result.now c.steal.new.self StoleNone (got_item _ _ _ c.requires c.index_mut.ensures.value) c.steal.ensures.same did) c.steal.ensures.none
