use Rattle.jump_pointers.proofs.Costs.{few_links}
use Rattle.jump_pointers.proofs.laws.climbs_are_short.Goals as goal

pub returns : goal.returns
returns c = few_links
