use Rattle.ledger_step_laws.proofs.Along as proved
use Rattle.ledger_step_laws.proofs.laws.private_steps_are_alike.Goals as goal

pub returns : goal.returns
returns c = proved.alike_steps
