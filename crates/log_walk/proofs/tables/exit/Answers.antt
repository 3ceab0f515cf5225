use Rattle.log_walk.proofs.Common.{◌<◌, ap, sym, subst, ◌∙◌, slice_get, GraphStrand}
use Rattle.log_walk.proofs.Climbs.{noted_task, own_tells, own_exit, top_tells, top_exit, after_within, strand_is_at}
use Rattle.log_walk.proofs.tables.exit.Goals as goal

pub returns-then-is_above-clause-is : goal.returns-then-is_above-clause-is
returns-then-is_above-clause-is c =
    own_exit c.args.tasks.now c.args.tables.now c.requires.tables c.args.first c.args.second c.requires.first (c.is_above.ensures.0 c.if-is_above.true)

pub returns-then-is_above-clause-tells : goal.returns-then-is_above-clause-tells
returns-then-is_above-clause-tells c =
    own_tells c.args.tasks.now c.args.tables.now c.requires.tables c.args.first c.args.second c.requires.first c.requires.second (c.is_above.ensures.0 c.if-is_above.true)

pub at-requires-2 : goal.at-requires-2
at-requires-2 c =
    let t = c.args.tables.now in
    subst (λ n. c.at.result.now.task < n) (sym c.requires.tables.afters.size)
    (noted_task c.args.tasks.now t c.requires.tables c.climb-top.result c.at.result.now c.at.ensures)

pub returns-clause-is : goal.returns-clause-is
returns-clause-is c =
    top_exit c.args.tasks.now c.args.tables.now c.requires.tables c.args.first c.args.second c.climb-top.result c.at-2.result.now
    c.climb-top.ensures.there c.climb-top.ensures.top c.climb-top.ensures.above c.climb-top.ensures.apart
    (ap (λ (x : GraphStrand). slice_get c.args.tables.now.afters x.task) (strand_is_at c.args.tasks.now c.args.tables.now c.requires.tables c.climb-top.result c.at.result.now c.at.ensures)
    ∙ c.at-2.ensures)

pub returns-clause-there : goal.returns-clause-there
returns-clause-there c =
    after_within c.args.tasks.now c.args.tables.now c.requires.tables c.climb-top.result c.at-2.result.now c.climb-top.ensures.there
    c.climb-top.ensures.top.parent c.climb-top.ensures.top.linked
    (ap (λ (x : GraphStrand). slice_get c.args.tables.now.afters x.task) (strand_is_at c.args.tasks.now c.args.tables.now c.requires.tables c.climb-top.result c.at.result.now c.at.ensures)
    ∙ c.at-2.ensures)

pub returns-clause-tells : goal.returns-clause-tells
returns-clause-tells c =
    top_tells c.args.tasks.now c.args.tables.now c.requires.tables c.args.first c.args.second c.climb-top.result c.at-2.result.now c.requires.first c.requires.second
    c.climb-top.ensures.there c.climb-top.ensures.top c.climb-top.ensures.above c.climb-top.ensures.apart
    (ap (λ (x : GraphStrand). slice_get c.args.tables.now.afters x.task) (strand_is_at c.args.tasks.now c.args.tables.now c.requires.tables c.climb-top.result c.at.result.now c.at.ensures)
    ∙ c.at-2.ensures)
