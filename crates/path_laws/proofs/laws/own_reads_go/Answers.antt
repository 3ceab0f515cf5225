use Rattle.path_laws.proofs.FreeReads as proved
use Rattle.path_laws.proofs.laws.own_reads_go.Goals as goal

pub returns : goal.returns
returns c = proved.own_reads_go
