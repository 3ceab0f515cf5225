use Rattle.log_walk.proofs.Made.{marked_once, are_firsts}
use Rattle.log_walk.specs.declared.places.Mark.TheVariants.{First, Last, Joined}
use Rattle.log_walk.proofs.walk.tables_of.Goals as goal

pub places_of-requires : goal.places_of-requires
places_of-requires c = marked_once c.args.tasks.now c.in_ok-order.order c.requires.some c.requires.nested c.requires.below c.in_ok-order.ensures First

pub places_of-requires-2 : goal.places_of-requires-2
places_of-requires-2 c = marked_once c.args.tasks.now c.in_ok-order.order c.requires.some c.requires.nested c.requires.below c.in_ok-order.ensures Last

pub places_of-requires-3 : goal.places_of-requires-3
places_of-requires-3 c = marked_once c.args.tasks.now c.in_ok-order.order c.requires.some c.requires.nested c.requires.below c.in_ok-order.ensures Joined

pub spawn_links-requires : goal.spawn_links-requires
spawn_links-requires c = are_firsts c.args.tasks.now c.in_ok-order.order c.requires.some c.requires.nested c.requires.below c.in_ok-order.ensures c.in_ok-firsts.firsts c.in_ok-firsts.ensures
