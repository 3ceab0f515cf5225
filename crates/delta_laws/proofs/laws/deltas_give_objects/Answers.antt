use Rattle.delta_laws.proofs.Puts as proved
use Rattle.delta_laws.proofs.laws.deltas_give_objects.Goals as goal

pub returns : goal.returns
returns c = proved.deltas_give_objects
