use Rattle.journal_laws.proofs.Words as proved
use Rattle.journal_laws.proofs.laws.words_are_accounted.Goals as goal

pub returns : goal.returns
returns c = proved.words_are_accounted
