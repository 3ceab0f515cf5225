use Rattle.log_races.proofs.Common.{◌∙◌, sym, ap, option_copied}
use Rattle.log_races.proofs.Parts.{none_there}
use Rattle.log_races.proofs.strands.told_number.Goals as goal

pub returns-in-None : goal.returns-in-None
returns-in-None c = none_there c.args.numbers.now c.args.task (sym c.get.ensures ∙ ap option_copied c.in-None.is)
