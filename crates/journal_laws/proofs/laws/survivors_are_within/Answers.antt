use Rattle.journal_laws.proofs.History as proved
use Rattle.journal_laws.proofs.laws.survivors_are_within.Goals as goal

pub returns : goal.returns
returns c = proved.survivors_are_within
