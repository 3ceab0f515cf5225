use Rattle.log_told.proofs.Common.{◌∙◌, ap, map, take_all, told_race}
use Rattle.log_told.proofs.Tables.{more_told}
use Rattle.log_told.proofs.table.LineTable.races.Goals as goal

pub loop-found-preserved : goal.loop-found-preserved
loop-found-preserved c = λ texts wanted is all.
    more_told (told_race texts) c.args.races.now c.loop-found.found-index _ c.loop-found.told c.push.new.self c.race.result c.loop-found-test.true
    (c.loop-found.invariant texts wanted is all) (c.race.ensures texts wanted is (all c.loop-found.found-index _ c.loop-found-test.true)) c.in_ok-push.ensures.ok

pub returns : goal.returns
returns c = λ texts wanted is all. c.loop-found.invariant texts wanted is all ∙ ap (map (told_race texts)) (take_all c.loop-found.found-index c.args.races.now c.loop-found-test.false)
