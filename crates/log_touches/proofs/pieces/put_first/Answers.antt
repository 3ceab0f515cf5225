use Rattle.log_touches.proofs.pieces.put_first.Goals as goal

pub returns-clause-new : goal.returns-clause-new
returns-clause-new c = λ t i. c.in_ok-insert.ensures.updates.0 (t, i)
