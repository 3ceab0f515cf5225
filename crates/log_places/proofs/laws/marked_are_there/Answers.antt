use Rattle.log_places.proofs.Cutting.{marked_are_there}
use Rattle.log_places.proofs.laws.marked_are_there.Goals as goal

pub returns : goal.returns
returns c = marked_are_there
