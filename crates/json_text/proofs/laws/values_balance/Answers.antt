use Rattle.json_text.proofs.Texts as proved
use Rattle.json_text.proofs.laws.values_balance.Goals as goal

pub returns : goal.returns
returns c = proved.values_balance
