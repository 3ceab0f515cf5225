use Rattle.log_places.proofs.Numbering.{slots_are_one}
use Rattle.log_places.proofs.laws.slots_are_one.Goals as goal

pub returns : goal.returns
returns c = slots_are_one
