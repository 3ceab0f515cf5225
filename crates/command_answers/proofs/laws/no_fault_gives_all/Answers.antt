use Rattle.command_answers.proofs.Given as given
use Rattle.command_answers.proofs.laws.no_fault_gives_all.Goals as goal

pub returns : goal.returns
returns c = given.no_fault_gives_all
