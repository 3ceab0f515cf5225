use Rattle.run_ledger.proofs.Bounds as proved
use Rattle.journal_laws.proofs.laws.steps_are_bounded.Goals as goal

pub returns : goal.returns
returns c = proved.steps_are_bounded
