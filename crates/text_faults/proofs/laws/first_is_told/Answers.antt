use Rattle.text_faults.proofs.FirstTold as proved
use Rattle.text_faults.proofs.laws.first_is_told.Goals as goal

pub returns : goal.returns
returns c = proved.first_is_told
