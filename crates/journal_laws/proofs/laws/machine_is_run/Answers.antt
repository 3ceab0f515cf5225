use Rattle.run_ledger.proofs.Machine as proved
use Rattle.journal_laws.proofs.laws.machine_is_run.Goals as goal

pub returns : goal.returns
returns c = proved.machine_is_run
