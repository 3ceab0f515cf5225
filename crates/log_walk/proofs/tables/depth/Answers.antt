use Rattle.log_walk.proofs.Common.{◌<◌, ◌^◌, sym, subst, arith, tasks_in, depth_at, IsDepthAt}
use Rattle.log_walk.proofs.Climbs.{depth_is, depth_small}
use Rattle.log_walk.proofs.tables.depth.Goals as goal

pub overflow_cast-result : goal.overflow_cast-result
overflow_cast-result c =
    let small : depth_at c.args.tables.now.links.items c.args.place < 2 ^ 32 = depth_small c.args._tasks.now c.args.tables.now c.requires.tables c.args.place c.requires.place in
    omega (arith, c.link.ensures.depth)

pub returns : goal.returns
returns c =
    subst (IsDepthAt (tasks_in c.args._tasks.now) c.args.tables.now.order c.args.place) (sym c.link.ensures.depth)
    (depth_is c.args._tasks.now c.args.tables.now c.requires.tables c.args.place c.requires.place)
