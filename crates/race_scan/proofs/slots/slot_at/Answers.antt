use Rattle.race_scan.proofs.Common.{refl, marked_are_there}
use Rattle.race_scan.proofs.slots.slot_at.Goals as goal

pub unreachable-requires : goal.unreachable-requires
unreachable-requires c =
    let m = marked_are_there c.args.numbers.now c.args.region c.requires.cut c.args.region.block c.args.at
    (record { of_block = refl; run = c.args.run; there = c.requires.run; from = c.requires.from; below = c.requires.below }) in
    c.in-None.ensures.none m.0 m.1
