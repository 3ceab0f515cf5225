use Rattle.journal_laws.proofs.Accepted as proved
use Rattle.journal_laws.proofs.laws.accepted_is_allowed.Goals as goal

pub returns : goal.returns
returns c = proved.accepted_is_allowed
