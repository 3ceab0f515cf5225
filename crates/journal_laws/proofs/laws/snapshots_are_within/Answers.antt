use Rattle.journal_laws.proofs.History as proved
use Rattle.journal_laws.proofs.laws.snapshots_are_within.Goals as goal

pub returns : goal.returns
returns c = proved.snapshots_are_within
