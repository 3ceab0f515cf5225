use Rattle.quoted_text.proofs.Balanced as proved
use Rattle.quoted_text.proofs.laws.joined_balance.Goals as goal

pub returns : goal.returns
returns c = proved.joined_balance
