use Rattle.model_laws.proofs.Example as proved
use Rattle.model_laws.proofs.laws.some_cas_wins.Goals as goal

pub returns : goal.returns
returns c = proved.some_cas_wins
