use Rattle.object_layout.proofs.ObjectChanges as lemmas
use Rattle.object_layout.proofs.laws.appended_is_last.Goals as goal

pub returns : goal.returns
returns c = lemmas.appended_is_last
