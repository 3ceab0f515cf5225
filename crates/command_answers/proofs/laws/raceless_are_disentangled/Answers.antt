use Rattle.command_answers.proofs.Raceless as raceless
use Rattle.command_answers.proofs.laws.raceless_are_disentangled.Goals as goal

pub returns : goal.returns
returns c = raceless.raceless_are_disentangled
