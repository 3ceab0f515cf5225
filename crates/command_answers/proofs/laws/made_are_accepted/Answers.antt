use Rattle.command_answers.proofs.Given as given
use Rattle.command_answers.proofs.laws.made_are_accepted.Goals as goal

pub returns : goal.returns
returns c = given.made_are_accepted
