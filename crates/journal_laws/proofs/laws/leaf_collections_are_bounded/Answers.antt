use Rattle.run_ledger.proofs.Space as proved
use Rattle.journal_laws.proofs.laws.leaf_collections_are_bounded.Goals as goal

pub returns : goal.returns
returns c = proved.leaf_collections_are_bounded
