use Rattle.run_read_laws.proofs.Along.{logs_tell_reads}
use Rattle.run_read_laws.proofs.logs_tell_reads.Goals as goal

pub returns : goal.returns
returns c = logs_tell_reads
