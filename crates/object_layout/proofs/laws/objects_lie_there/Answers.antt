use Rattle.object_layout.proofs.ObjectLemmas as lemmas
use Rattle.object_layout.proofs.laws.objects_lie_there.Goals as goal

pub returns : goal.returns
returns c = lemmas.objects_lie_there
