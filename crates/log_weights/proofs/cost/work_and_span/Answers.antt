use Rattle.log_weights.proofs.Common.{◌∙◌, events_of}
use Rattle.log_weights.proofs.Weighing.{span_is}
use Rattle.log_weights.proofs.cost.work_and_span.Goals as goal

pub returns-clause-span : goal.returns-clause-span
returns-clause-span c =
    span_is (events_of c.args.texts.now) c.args.tasks.now c.args.walk.now c.order-order.ensures.walked c.requires.walk c.order-order.result.now c.order-order.ensures.order c.as_slice-in-Some.result.now
    c.in_ok-span-in-Some.span (c.as_slice-in-Some.ensures ∙ c.in_ok-weights.ensures.weights) c.in_ok-span-in-Some.ensures
