use Rattle.log_strands.proofs.places.PlaceTable.note.Goals as goal

pub returns : goal.returns
returns c = λ t i. c.in_ok-insert.ensures.updates.0 (t, i)
