use Rattle.command_answers.proofs.Imaged as imaged
use Rattle.command_answers.proofs.laws.images_have_just_held.Goals as goal

pub returns : goal.returns
returns c = imaged.images_have_just_held
