use Rattle.log_births.proofs.Telling as proved
use Rattle.log_births.proofs.laws.uses_tell_reads.Goals as goal

pub returns : goal.returns
returns c = proved.uses_tell_reads
