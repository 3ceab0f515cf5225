use Rattle.race_cells.proofs.Heights.{stacks_are_low}
use Rattle.race_cells.proofs.laws.stacks_are_low.Goals as goal

pub returns : goal.returns
returns c = stacks_are_low
