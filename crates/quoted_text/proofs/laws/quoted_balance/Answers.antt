use Rattle.quoted_text.proofs.Balanced as proved
use Rattle.quoted_text.proofs.laws.quoted_balance.Goals as goal

pub returns : goal.returns
returns c = proved.quoted_balance
