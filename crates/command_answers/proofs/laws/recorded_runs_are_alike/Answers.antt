use Rattle.command_answers.proofs.Recorded as recorded
use Rattle.command_answers.proofs.laws.recorded_runs_are_alike.Goals as goal

pub returns : goal.returns
returns c = recorded.recorded_runs_are_alike
