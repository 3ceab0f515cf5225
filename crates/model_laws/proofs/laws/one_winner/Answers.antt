use Rattle.model_laws.proofs.Winner as proved
use Rattle.model_laws.proofs.laws.one_winner.Goals as goal

pub returns : goal.returns
returns c = proved.one_winner
