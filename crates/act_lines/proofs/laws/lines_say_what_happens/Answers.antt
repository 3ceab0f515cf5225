use Rattle.act_lines.proofs.Saying.{lines_say_what_happens}
use Rattle.act_lines.proofs.laws.lines_say_what_happens.Goals as goal

pub returns : goal.returns
returns c = lines_say_what_happens
