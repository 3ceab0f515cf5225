use Rattle.ledger_heaps.proofs.Common.{◌∙◌, sym, contains, is_name}
use Rattle.ledger_heaps.proofs.Meets.{met_one}
use Rattle.ledger_heaps.proofs.search.Search.meet.Goals as goal

pub returns-in_ok-push-clause-met : goal.returns-in_ok-push-clause-met
returns-in_ok-push-clause-met c =
    met_one (contains is_name c.args.self.now.unmet) (contains is_name c.remove.new.self) c.args.self.now.waiting c.push.new.self c.args.name
    (sym c.remove.ensures.test ∙ c.if-remove.true) (λ q. c.remove.ensures.updates.0 q) c.in_ok-push.ensures.ok
