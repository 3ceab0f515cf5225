use Rattle.walk_laws.proofs.Reached as proved
use Rattle.walk_laws.proofs.reached_is_least.Goals as goal

pub returns : goal.returns
returns g c = proved.reached_is_least _
