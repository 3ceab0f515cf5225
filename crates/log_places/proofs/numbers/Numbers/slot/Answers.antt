use Rattle.std.proofs.Common.{arith}
use Rattle.log_places.proofs.Numbering.{first_there, number_below, numbered, slot_is}
use Rattle.log_places.proofs.numbers.Numbers.slot.Goals as goal

pub index-requires-2 : goal.index-requires-2
index-requires-2 c =
    omega (
      arith,
      first_there c.args.self.now c.self.inside.known.keys c.self.inside.pages.items c.self.inside.firsts.items c.args.i c.self.view_is c.self.invariant.1 c.requires.there,
      c.self.inside.firsts.ok.0,
    )

pub sum_below-number-requires : goal.sum_below-number-requires
sum_below-number-requires c =
    let below = number_below c.args.self.now c.self.inside.known.keys c.self.inside.pages.items c.self.inside.firsts.items c.args.i c.index-2.result.now
    c.stretches-stretches.result.now c.index.result.now c.self.view_is c.self.invariant.1 c.requires.there c.index-2.ensures c.index.ensures
    c.stretches-stretches.ensures.value c.in_ok-place.place c.in_ok-place.stretch c.in_ok-place.ensures.some.0 in
    omega (arith, below, c.self.invariant.2)

pub returns-clause-some : goal.returns-clause-some
returns-clause-some c =
    numbered c.args.self.now.pages c.args.i c.args.base c.args.location c.sum_below-number.result _ c.behind.result c.behind-2.result c.sum_below-number.ensures
    (slot_is c.args.self.now c.self.inside.known.keys c.self.inside.pages.items c.self.inside.firsts.items c.args.i c.index-2.result.now
    c.stretches-stretches.result.now c.index.result.now c.self.view_is c.self.invariant.1 c.requires.there c.index-2.ensures c.index.ensures
    c.stretches-stretches.ensures.value c.stretches-stretches.ensures.order c.args.base c.args.location c.behind.result c.behind-2.result c.in_ok-place.place c.in_ok-place.stretch
    c.in_ok-place.ensures.some.0 c.in_ok-place.ensures.some.1 c.behind.ensures c.behind-2.ensures)
