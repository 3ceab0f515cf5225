use Rattle.command_answers.proofs.Given as given
use Rattle.command_answers.proofs.laws.programs_are_run.Goals as goal

pub returns : goal.returns
returns c = given.programs_are_run
