use Rattle.object_layout.proofs.ObjectChanges as lemmas
use Rattle.object_layout.proofs.laws.led_are_read.Goals as goal

pub returns : goal.returns
returns c = lemmas.led_are_read
