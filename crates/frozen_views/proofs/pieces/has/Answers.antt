use Rattle.frozen_views.proofs.pieces.has.Goals as goal

pub returns : goal.returns
returns c = c.contains.ensures.value
