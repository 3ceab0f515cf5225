use Rattle.program_reader.proofs.LoopsRead as proved
use Rattle.program_reader.proofs.laws.loops_are_read.Goals as goal

pub returns : goal.returns
returns c = proved.loops_are_read
