use Rattle.model_laws.proofs.Stopped as proved
use Rattle.model_laws.proofs.laws.reads_are_decided.Goals as goal

pub returns : goal.returns
returns c = proved.reads_are_decided
