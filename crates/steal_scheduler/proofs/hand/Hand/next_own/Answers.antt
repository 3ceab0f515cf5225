use Rattle.std.proofs.Common.{[], arith}
use Rattle.steal_scheduler.proofs.Rules.{takes_back}
use Rattle.steal_scheduler.proofs.hand.Hand.next_own.Goals as goal

pub pop-requires-in-None-clause-pops : goal.pop-requires-in-None-clause-pops
pop-requires-in-None-clause-pops c = takes_back _ _ c.args.self.now.owner

pub pop-requires-in-None-clause-empty : goal.pop-requires-in-None-clause-empty
pop-requires-in-None-clause-empty c = λ views holds at. record { items = []; views = views; port = _; few = omega arith; dealt = holds; view_is = at }
