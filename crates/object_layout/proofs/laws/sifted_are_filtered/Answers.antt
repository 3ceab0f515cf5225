use Rattle.object_layout.proofs.ObjectChanges as lemmas
use Rattle.object_layout.proofs.laws.sifted_are_filtered.Goals as goal

pub returns : goal.returns
returns c = lemmas.sifted_are_filtered
