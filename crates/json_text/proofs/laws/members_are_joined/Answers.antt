use Rattle.json_text.proofs.Texts as proved
use Rattle.json_text.proofs.laws.members_are_joined.Goals as goal

pub returns : goal.returns
returns c = proved.members_are_joined
