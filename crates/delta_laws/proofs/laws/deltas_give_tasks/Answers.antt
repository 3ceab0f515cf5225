use Rattle.delta_laws.proofs.Tells as proved
use Rattle.delta_laws.proofs.laws.deltas_give_tasks.Goals as goal

pub returns : goal.returns
returns c = proved.deltas_give_tasks
