use Rattle.race_groups.proofs.Common.{◌∙◌, ap, sym, position, on_ok_weaker, Lines, same_pair, lines_of_groups}
use Rattle.race_groups.proofs.Gathering.{counted_at, found_at, put_last}
use Rattle.race_groups.proofs.groups.RaceGroups.add.Goals as goal

pub returns-in-None : goal.returns-in-None
returns-in-None c =
    on_ok_weaker c.push.result
    (λ e. e ∙ put_last c.args.self.now c.args.race.now (ap (λ (l : Lines). position (same_pair l) (lines_of_groups c.args.self.now)) (sym c.lines_of_race.ensures) ∙ sym c.place.ensures ∙ c.in-None.is))
    c.push.ensures

pub returns-in-Some : goal.returns-in-Some
returns-in-Some c =
    let is = ap (λ (l : Lines). position (same_pair l) (lines_of_groups c.args.self.now)) (sym c.lines_of_race.ensures) ∙ sym c.place.ensures ∙ c.in-Some.is in
    let g = found_at c.args.self.now c.args.race.now c.in-Some.place is in
    c.count.ensures g.0 g.1 ∙ counted_at c.args.self.now c.args.race.now c.in-Some.place g.0 is g.1
