use Rattle.join_scenes.proofs.joining.joined.Goals as goal

pub join-requires-clause-left_in_use : goal.join-requires-clause-left_in_use
join-requires-clause-left_in_use c = c.prepare.ensures.left_in_use c.if-not-prepare.false

pub join-requires-clause-right_in_use : goal.join-requires-clause-right_in_use
join-requires-clause-right_in_use c = c.prepare.ensures.right_in_use c.if-not-prepare.false
