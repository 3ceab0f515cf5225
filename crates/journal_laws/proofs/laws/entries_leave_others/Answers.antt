use Rattle.run_ledger.proofs.Frames as proved
use Rattle.journal_laws.proofs.laws.entries_leave_others.Goals as goal

pub returns : goal.returns
returns c = proved.entries_leave_others
