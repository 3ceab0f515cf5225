use Rattle.command_answers.proofs.Traces as traces
use Rattle.command_answers.proofs.laws.made_are_read.Goals as goal

pub returns : goal.returns
returns c = traces.made_are_read
