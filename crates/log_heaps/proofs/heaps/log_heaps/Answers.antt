use Rattle.log_heaps.proofs.Common.{length, IfOk-weaker, IfErr-weaker, events_of_pieces, places_are, are_within, places_within}
use Rattle.log_heaps.proofs.Making.{nothing_tallied, heaps_are, too_many}
use Rattle.log_heaps.proofs.heaps.log_heaps.Goals as goal

pub take_pieces-requires-clause-there : goal.take_pieces-requires-clause-there
take_pieces-requires-clause-there c =
    places_within c.args.tasks.now c.args.walk.now.order c.args.pieces.now c.as_slice-2.result.now
    (places_are c.args.tasks.now c.order.result.now c.args.walk.now.order c.args.pieces.now c.in_ok-places.places c.as_slice-2.result.now c.order.ensures.order c.as_slice-2.ensures c.in_ok-places.ensures)

pub take_pieces-requires-clause-within : goal.take_pieces-requires-clause-within
take_pieces-requires-clause-within c =
    are_within c.args.tasks.now c.args.walk.now (events_of_pieces c.args.texts.now c.args.pieces.now) (length (events_of_pieces c.args.texts.now c.args.pieces.now)) c.in_ok-lines.lines
    (c.in_ok-lines.ensures c.args.tasks.now c.args.walk.now.order
    (places_are c.args.tasks.now c.order.result.now c.args.walk.now.order c.args.pieces.now c.in_ok-places.places c.as_slice.result.now c.order.ensures.order c.as_slice.ensures c.in_ok-places.ensures))

pub returns-clause-heaps : goal.returns-clause-heaps
returns-clause-heaps c =
    IfOk-weaker c.told.result _ _
    (heaps_are c.args.texts.now c.args.pieces.now c.args.tasks.now c.args.walk.now c.in_ok-lines.lines c.new-tally.result c.take_pieces.new.self c.as_slice-2.result.now c.requires.pieces c.requires.whole c.requires.tasks.0 c.requires.tasks.1
    c.order.ensures.walked c.requires.walk
    (places_are c.args.tasks.now c.order.result.now c.args.walk.now.order c.args.pieces.now c.in_ok-places.places c.as_slice-2.result.now c.order.ensures.order c.as_slice-2.ensures c.in_ok-places.ensures)
    (c.in_ok-lines.ensures c.args.tasks.now c.args.walk.now.order
    (places_are c.args.tasks.now c.order.result.now c.args.walk.now.order c.args.pieces.now c.in_ok-places.places c.as_slice.result.now c.order.ensures.order c.as_slice.ensures c.in_ok-places.ensures))
    (nothing_tallied (events_of_pieces c.args.texts.now c.args.pieces.now) c.args.tasks.now c.new-tally.result c.new-tally.ensures.births c.new-tally.ensures.shared c.new-tally.ensures.stores c.new-tally.ensures.down)
    c.in_ok-take_pieces.ensures)
    c.told.ensures.told

pub returns-clause-too_much : goal.returns-clause-too_much
returns-clause-too_much c =
    IfErr-weaker c.told.result _ _
    (too_many c.args.texts.now c.args.pieces.now c.args.tasks.now c.args.walk.now c.in_ok-lines.lines c.new-tally.result c.take_pieces.new.self c.as_slice-2.result.now c.requires.pieces c.requires.whole c.requires.tasks.0 c.requires.tasks.1
    c.order.ensures.walked c.requires.walk
    (places_are c.args.tasks.now c.order.result.now c.args.walk.now.order c.args.pieces.now c.in_ok-places.places c.as_slice-2.result.now c.order.ensures.order c.as_slice-2.ensures c.in_ok-places.ensures)
    (c.in_ok-lines.ensures c.args.tasks.now c.args.walk.now.order
    (places_are c.args.tasks.now c.order.result.now c.args.walk.now.order c.args.pieces.now c.in_ok-places.places c.as_slice.result.now c.order.ensures.order c.as_slice.ensures c.in_ok-places.ensures))
    (nothing_tallied (events_of_pieces c.args.texts.now c.args.pieces.now) c.args.tasks.now c.new-tally.result c.new-tally.ensures.births c.new-tally.ensures.shared c.new-tally.ensures.stores c.new-tally.ensures.down)
    c.in_ok-take_pieces.ensures)
    c.told.ensures.too_many
