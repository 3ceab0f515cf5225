use Rattle.log_walk.proofs.Common.{tasks_in, through, task_at}
use Rattle.log_walk.proofs.tables.climb.Goals as goal

pub loop-up-preserved : goal.loop-up-preserved
loop-up-preserved c =
    let next = c.in-Some.ensures.next in
    let order = c.args.tables.now.order in
    record {
      there = next.there;
      above = through (tasks_in c.args.tasks.now) (task_at order c.in-Some.up) (task_at order c.loop-up.at) (task_at order c.args.place) next.above c.loop-up.invariant.above;
      apart = next.apart;
    }
