use Rattle.std.proofs.Common.{◌+◌, ◌∙◌}
use Rattle.race_groups.proofs.Gathering.{lines_stay, read_at, counted_same}
use Rattle.race_groups.proofs.groups.RaceGroups.count.Goals as goal

pub invariant_of-self : goal.invariant_of-self
invariant_of-self c =
    c.self.invariant
    ∙ lines_stay c.self.inside.list.items c.args.place c.index-group.result.now (c.index-group.result.now.fields + 1)
    (read_at c.self.inside.list.items c.args.self.now c.args.place c.index-group.result.now c.self.view_is c.requires.within c.index-group.ensures)

pub returns : goal.returns
returns c = λ g e. counted_same c.self.inside.list.items c.args.self.now c.args.place c.index-group.result.now g c.self.view_is c.requires.within c.index-group.ensures e
