use Rattle.run_ledger.proofs.Collections as proved
use Rattle.journal_laws.proofs.laws.collections_keep_just.Goals as goal

pub returns : goal.returns
returns c = proved.collections_keep_just
