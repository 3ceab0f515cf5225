use Rattle.text_faults.proofs.FirstTold as proved
use Rattle.text_faults.proofs.laws.none_in_programs.Goals as goal

pub returns : goal.returns
returns c = proved.none_in_programs
