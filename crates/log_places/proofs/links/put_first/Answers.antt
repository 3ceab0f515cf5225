use Rattle.log_places.proofs.links.put_first.Goals as goal

pub returns-clause-new : goal.returns-clause-new
returns-clause-new c = λ b. c.in_ok-insert.ensures.updates.0 b
