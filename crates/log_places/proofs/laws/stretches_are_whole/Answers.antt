use Rattle.log_places.proofs.Cutting.{stretches_are_whole}
use Rattle.log_places.proofs.laws.stretches_are_whole.Goals as goal

pub returns : goal.returns
returns c = stretches_are_whole
