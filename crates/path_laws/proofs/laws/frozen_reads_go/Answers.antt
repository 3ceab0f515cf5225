use Rattle.path_laws.proofs.Frozen as proved
use Rattle.path_laws.proofs.laws.frozen_reads_go.Goals as goal

pub returns : goal.returns
returns c = proved.frozen_reads_go
