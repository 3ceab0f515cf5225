use Rattle.view_laws.proofs.Seeing as proved
use Rattle.view_laws.proofs.laws.frozen_stay.Goals as goal

pub returns : goal.returns
returns c = proved.frozen_stay
