use Rattle.race_groups.proofs.Common.{◌∙◌, ◌∷◌, ◌++◌, List, [], ap, sym, position, RaceGroup, lines_of_race, same_pair, lines_of_groups}
use Rattle.race_groups.proofs.Gathering.{pushed_lines}
use Rattle.race_groups.proofs.groups.RaceGroups.push.Goals as goal

pub invariant_of-self-2 : goal.invariant_of-self-2
invariant_of-self-2 c =
    c.in_ok-insert.ensures.keys
    ∙ pushed_lines c.self.inside.list.items c.args.race.now c.self.inside.lines.keys c.lines_of_race.result
    (ap (λ (gs : List RaceGroup). position (same_pair (lines_of_race c.args.race.now)) (lines_of_groups gs)) c.self.view_is ∙ c.requires) c.self.invariant c.lines_of_race.ensures
    ∙ sym (ap lines_of_groups (c.push_reserved.ensures.items
    ∙ ap (λ (gs : List RaceGroup). gs ++ c.group_of.result ∷ []) c.reserve.ensures.items
    ∙ ap (λ (g : RaceGroup). c.self.inside.list.items ++ g ∷ []) c.group_of.ensures))
