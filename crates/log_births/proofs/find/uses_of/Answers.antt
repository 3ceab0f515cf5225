use Rattle.log_births.proofs.Common.{length, events_of_pieces}
use Rattle.log_births.proofs.Whole.{are_within, places_within}
use Rattle.log_births.proofs.Making.{places_are, found_all}
use Rattle.log_births.proofs.find.uses_of.Goals as goal

pub take_pieces-requires-clause-there : goal.take_pieces-requires-clause-there
take_pieces-requires-clause-there c =
    places_within c.args.tasks.now c.args.walk.now.order c.args.pieces.now c.as_slice-2.result.now
    (places_are c.args.tasks.now c.order.result.now c.args.walk.now.order c.args.pieces.now c.in_ok-places.places c.as_slice-2.result.now c.order.ensures.order c.as_slice-2.ensures c.in_ok-places.ensures)

pub take_pieces-requires-clause-within : goal.take_pieces-requires-clause-within
take_pieces-requires-clause-within c =
    are_within c.args.tasks.now c.args.walk.now (events_of_pieces c.args.texts.now c.args.pieces.now) (length (events_of_pieces c.args.texts.now c.args.pieces.now)) c.in_ok-lines.lines
    (c.in_ok-lines.ensures c.args.tasks.now c.args.walk.now.order
    (places_are c.args.tasks.now c.order.result.now c.args.walk.now.order c.args.pieces.now c.in_ok-places.places c.as_slice.result.now c.order.ensures.order c.as_slice.ensures c.in_ok-places.ensures))

pub returns-clause-found : goal.returns-clause-found
returns-clause-found c =
    found_all c.args.texts.now c.args.pieces.now c.args.tasks.now c.args.walk.now c.in_ok-lines.lines c.new-found.result c.take_pieces.new.self c.as_slice-2.result.now c.requires.pieces c.requires.whole c.requires.tasks.0 c.requires.tasks.1
    c.order.ensures.walked c.requires.walk
    (places_are c.args.tasks.now c.order.result.now c.args.walk.now.order c.args.pieces.now c.in_ok-places.places c.as_slice-2.result.now c.order.ensures.order c.as_slice-2.ensures c.in_ok-places.ensures)
    (c.in_ok-lines.ensures c.args.tasks.now c.args.walk.now.order
    (places_are c.args.tasks.now c.order.result.now c.args.walk.now.order c.args.pieces.now c.in_ok-places.places c.as_slice.result.now c.order.ensures.order c.as_slice.ensures c.in_ok-places.ensures))
    c.new-found.ensures c.in_ok-take_pieces.ensures
