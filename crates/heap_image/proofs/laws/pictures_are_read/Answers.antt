use Rattle.heap_image.proofs.Told as proved
use Rattle.heap_image.proofs.laws.pictures_are_read.Goals as goal

pub returns : goal.returns
returns c = proved.pictures_are_read
