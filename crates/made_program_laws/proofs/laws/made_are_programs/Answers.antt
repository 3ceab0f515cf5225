use Rattle.made_program_laws.proofs.Made as proved
use Rattle.made_program_laws.proofs.laws.made_are_programs.Goals as goal

pub returns : goal.returns
returns c = proved.made_are_programs
