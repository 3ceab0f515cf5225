use Rattle.heap_image.proofs.Faultless as proved
use Rattle.heap_image.proofs.laws.sound_is_faultless.Goals as goal

pub returns : goal.returns
returns c = proved.sound_is_faultless
