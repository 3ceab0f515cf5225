use Rattle.run_ledger.proofs.Space as proved
use Rattle.journal_laws.proofs.laws.use_is_bounded.Goals as goal

pub returns : goal.returns
returns c = proved.use_is_bounded
