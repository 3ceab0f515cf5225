use Rattle.command_answers.proofs.Given as given
use Rattle.command_answers.proofs.laws.traces_are_replayed.Goals as goal

pub returns : goal.returns
returns c = given.traces_are_replayed
