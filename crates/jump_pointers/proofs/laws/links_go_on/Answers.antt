use Rattle.jump_pointers.proofs.Growth as proved
use Rattle.jump_pointers.proofs.laws.links_go_on.Goals as goal

pub returns : goal.returns
returns c = proved.links_go_on
