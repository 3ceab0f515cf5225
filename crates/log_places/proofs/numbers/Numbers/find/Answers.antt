use Rattle.log_places.proofs.Common.{IfSome_then, if_none}
use Rattle.log_places.proofs.Numbering.{slot_of, none_of}
use Rattle.log_places.proofs.numbers.Numbers.find.Goals as goal

pub returns-clause-slot : goal.returns-clause-slot
returns-clause-slot c =
    IfSome_then c.slot.result c.slot.ensures.some (λ slot is. slot_of c.args.self.now c.args.block c.args.location c.in_ok-i.i slot c.in_ok-i.ensures.some is)

pub returns-clause-none : goal.returns-clause-none
returns-clause-none c =
    if_none c.slot.result _ _ (none_of c.args.self.now c.args.block c.args.location c.in_ok-i.i c.in_ok-i.ensures.some c.in_ok-i.ensures.there) c.slot.ensures.none
