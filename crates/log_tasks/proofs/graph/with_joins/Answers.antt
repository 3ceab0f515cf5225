use Rattle.log_tasks.proofs.Common.{nat_eq, contains}
use Rattle.log_tasks.proofs.Joining.{joins_step}
use Rattle.log_tasks.proofs.graph.with_joins.Goals as goal

pub loop-place-preserved : goal.loop-place-preserved
loop-place-preserved c =
    joins_step (contains nat_eq c.args.joined.now) c.args.row c.loop-place.turns c.add_join.new.turns c.loop-place.place c.len-count.result c.at-turn.result.now c.left_by.result c.len-count.ensures c.loop-place-test.true c.loop-place.invariant
    c.at-turn.ensures c.left_by.ensures c.in_ok-add_join.ensures
