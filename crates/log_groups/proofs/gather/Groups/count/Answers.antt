use Rattle.log_groups.proofs.Common.{◌≡◌, ◌+◌, ◌*◌, ◌≤◌, ◌^◌, ◌∙◌, sym, ap, arith, Some, slice_get}
use Rattle.log_groups.proofs.Gathering.{keys_stay, read_at, counted_same, below_at}
use Rattle.log_groups.proofs.gather.Groups.count.Goals as goal

pub invariant_of-self : goal.invariant_of-self
invariant_of-self c =
    c.self.invariant
    ∙ keys_stay c.self.inside.list.items c.args.place c.index-group.result.now (c.index-group.result.now.total + c.args.size)
    (read_at c.self.inside.list.items c.args.self.now c.args.place c.index-group.result.now c.self.view_is c.requires.within c.index-group.ensures)

pub returns : goal.returns
returns c = λ g e. counted_same c.self.inside.list.items c.args.self.now c.args.place c.args.size c.index-group.result.now g c.self.view_is c.requires.within c.index-group.ensures e

pub overflow_add-group : goal.overflow_add-group
overflow_add-group c =
    let at = sym (ap (λ gs. slice_get gs c.args.place) c.self.view_is) ∙ read_at c.self.inside.list.items c.args.self.now c.args.place c.index-group.result.now c.self.view_is c.requires.within c.index-group.ensures in
    let le = below_at c.args.self.now (2 ^ 63) c.args.place c.index-group.result.now c.requires.few at in
    omega (arith, le, c.ranges.size)
