use Rattle.command_answers.proofs.Headline as headline
use Rattle.command_answers.proofs.laws.runs_hold_the_headline.Goals as goal

pub returns : goal.returns
returns c = headline.runs_hold_the_headline
