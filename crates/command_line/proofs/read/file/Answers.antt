use Rattle.command_line.proofs.Common.{◌∙◌, codes, ap, Some, found_of, first_value-rows}
use Rattle.command_line.proofs.read.file.Goals as goal

pub returns-in-Some : goal.returns-in-Some
returns-in-Some c = ap Some c.new.ensures ∙ c.in-Some.ensures ∙ first_value-rows (found_of c.args.matches.now) (codes "FILE")

pub returns-in-None : goal.returns-in-None
returns-in-None c = c.in-None.ensures ∙ first_value-rows (found_of c.args.matches.now) (codes "FILE")
