use Rattle.std.proofs.Common.{ap, ◌∙◌}
use Rattle.run_order.specs.Order.{is_upto, run_order}
use Rattle.run_order.proofs.order.RunOrderStrands.happens_before.Goals as goal

pub returns : goal.returns
unfolding run_order
returns c = c.is_upto.ensures ∙ ap (λ o. is_upto o c.args.v) c.exit.ensures.value
