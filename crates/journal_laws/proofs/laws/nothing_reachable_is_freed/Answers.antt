use Rattle.run_ledger.proofs.Journals as proved
use Rattle.journal_laws.proofs.laws.nothing_reachable_is_freed.Goals as goal

pub returns : goal.returns
returns c = proved.nothing_reachable_is_freed
