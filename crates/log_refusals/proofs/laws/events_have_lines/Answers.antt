use Rattle.log_refusals.proofs.Events.{have_lines}
use Rattle.log_refusals.proofs.laws.events_have_lines.Goals as goal

pub returns : goal.returns
returns c = have_lines
