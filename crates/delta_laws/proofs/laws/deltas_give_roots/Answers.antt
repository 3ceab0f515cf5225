use Rattle.delta_laws.proofs.Roots as proved
use Rattle.delta_laws.proofs.laws.deltas_give_roots.Goals as goal

pub returns : goal.returns
returns c = proved.deltas_give_roots
