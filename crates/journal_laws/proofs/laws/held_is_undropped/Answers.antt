use Rattle.journal_laws.proofs.Drops as proved
use Rattle.journal_laws.proofs.laws.held_is_undropped.Goals as goal

pub returns : goal.returns
returns c = proved.held_is_undropped
