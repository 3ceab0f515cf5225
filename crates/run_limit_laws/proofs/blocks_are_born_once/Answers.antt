use Rattle.run_limit_laws.proofs.Births.{blocks_are_born_once}
use Rattle.run_limit_laws.proofs.blocks_are_born_once.Goals as goal

pub returns : goal.returns
returns c = blocks_are_born_once
