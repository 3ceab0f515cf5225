use Rattle.std.proofs.Common.{◌<◌, sym, subst}
use Rattle.log_walk.proofs.Climbs.{noted_task, above_tells}
use Rattle.log_walk.proofs.tables.is_above.Goals as goal

pub at-first-requires : goal.at-first-requires
at-first-requires c =
    let t = c.args.tables.now in
    subst (λ n. c.at.result.now.task < n) (sym c.requires.tables.firsts.size)
    (noted_task c.args._tasks.now t c.requires.tables c.args.upper c.at.result.now c.at.ensures)

pub at-last-requires : goal.at-last-requires
at-last-requires c =
    let t = c.args.tables.now in
    subst (λ n. c.at.result.now.task < n) (sym c.requires.tables.lasts.size)
    (noted_task c.args._tasks.now t c.requires.tables c.args.upper c.at.result.now c.at.ensures)

pub returns : goal.returns
returns c =
    let tells = above_tells c.args._tasks.now c.args.tables.now c.requires.tables c.args.upper c.args.lower c.at-first.result.now c.at-last.result.now
    c.at.result.now c.requires.upper c.requires.lower c.at.ensures c.at-first.ensures c.at-last.ensures in
    (λ is. tells.0 (c.is_between.ensures.0 is), λ up. c.is_between.ensures.1 (tells.1 up))
