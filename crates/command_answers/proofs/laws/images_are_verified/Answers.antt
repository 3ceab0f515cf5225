use Rattle.command_answers.proofs.Imaged as imaged
use Rattle.command_answers.proofs.laws.images_are_verified.Goals as goal

pub returns : goal.returns
returns c = imaged.images_are_verified
