use Rattle.json_text.proofs.Texts as proved
use Rattle.json_text.proofs.laws.arrays_are_joined.Goals as goal

pub returns : goal.returns
returns c = proved.arrays_are_joined
