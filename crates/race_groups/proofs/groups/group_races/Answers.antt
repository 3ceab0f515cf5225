use Rattle.race_groups.proofs.Common.{◌∙◌, ap, sym, arith, take, [], fold, slice_get, length-take, take_all, fold_more, with_grouped_race}
use Rattle.race_groups.proofs.Gathering.{all_gathered, most_fields}
use Rattle.race_groups.proofs.groups.group_races.Goals as goal

pub add-requires : goal.add-requires
add-requires c = λ k g e.
    let le = most_fields (take c.loop-race.race-index c.args.races.now) k g (sym (ap (λ gs. slice_get gs k) (c.loop-race.invariant ∙ all_gathered (take c.loop-race.race-index c.args.races.now))) ∙ e) in
    let len = length-take c.loop-race.race-index c.args.races.now in
    omega (arith, le, len, c.loop-race-test.true)

pub loop-race-preserved : goal.loop-race-preserved
loop-race-preserved c = grind (arith, fold_more)

pub returns : goal.returns
returns c =
    c.into_vec.ensures
    ∙ c.loop-race.invariant
    ∙ ap (fold with_grouped_race []) (take_all c.loop-race.race-index c.args.races.now c.loop-race-test.false)
    ∙ all_gathered c.args.races.now
