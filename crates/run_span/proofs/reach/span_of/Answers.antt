use Rattle.std.proofs.Common.{◌<◌, length, sym, subst}
use Rattle.run_span.proofs.Reaching.{some_strands, span_last}
use Rattle.run_span.proofs.reach.span_of.Goals as goal

pub final_reach-requires : goal.final_reach-requires
final_reach-requires c =
    subst (λ n. 0 < n) (sym c.in_ok-reaches.ensures.size)
    (some_strands c.args.tasks.now c.args.order.now c.args.weights.now c.requires.some c.requires.nested c.requires.below c.requires.order c.requires.weighed)

pub returns : goal.returns
returns c =
    span_last c.args.tasks.now c.args.order.now c.args.weights.now c.requires.some c.requires.nested c.requires.below c.requires.order c.requires.weighed
    c.in_ok-reaches.reaches c.final_reach.result c.in_ok-reaches.ensures c.final_reach.ensures
