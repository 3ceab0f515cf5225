use Rattle.std.proofs.Common.{ap, ◌∙◌}
use Rattle.run_order.specs.Order.{exit_of, is_no_later, run_order}
use Rattle.run_order.proofs.order.RunOrderStrands.leaves_first.Goals as goal

pub returns : goal.returns
unfolding run_order
returns c =
    c.is_no_later.ensures
    ∙ (ap (λ o. is_no_later o c.exit-2.result) c.exit.ensures.value ∙ ap (is_no_later (exit_of c.args.self.now c.args.u c.args.v)) c.exit-2.ensures.value)
