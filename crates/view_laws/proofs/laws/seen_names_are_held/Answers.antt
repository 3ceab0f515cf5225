use Rattle.view_laws.proofs.Seeing as proved
use Rattle.view_laws.proofs.laws.seen_names_are_held.Goals as goal

pub returns : goal.returns
returns c = proved.seen_names_are_held
