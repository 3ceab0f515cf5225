use Rattle.journal_laws.proofs.PaceLaw as proved
use Rattle.journal_laws.proofs.laws.paced_keeps_the_pace.Goals as goal

pub returns : goal.returns
returns c = proved.paced_keeps_the_pace
