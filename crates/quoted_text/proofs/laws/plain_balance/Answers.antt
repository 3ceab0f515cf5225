use Rattle.quoted_text.proofs.Balanced as proved
use Rattle.quoted_text.proofs.laws.plain_balance.Goals as goal

pub returns : goal.returns
returns c = proved.plain_balance
