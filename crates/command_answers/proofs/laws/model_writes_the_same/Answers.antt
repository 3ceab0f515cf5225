use Rattle.command_answers.proofs.Alike as alike
use Rattle.command_answers.proofs.laws.model_writes_the_same.Goals as goal

pub returns : goal.returns
returns c = alike.model_writes_the_same
