use Rattle.heap_image.proofs.Sample as proved
use Rattle.heap_image.proofs.laws.some_picture_is_sound.Goals as goal

pub returns : goal.returns
returns c = proved.some_picture_is_sound
