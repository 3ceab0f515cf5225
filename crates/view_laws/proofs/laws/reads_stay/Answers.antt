use Rattle.view_laws.proofs.Seeing as proved
use Rattle.view_laws.proofs.laws.reads_stay.Goals as goal

pub returns : goal.returns
returns c = proved.reads_stay
