use Rattle.object_layout.proofs.ObjectChanges as lemmas
use Rattle.object_layout.proofs.laws.put_changes_one.Goals as goal

pub returns : goal.returns
returns c = lemmas.put_changes_one
