use Rattle.std.proofs.Common.{rules}
use Rattle.log_findings.proofs.find.report_walk.Goals as goal

pub returns-in_err-told-clause-refused : goal.returns-in_err-told-clause-refused
returns-in_err-told-clause-refused c = let refused = c.in_err-told.ensures.refused c.args.asked in search (refused, rules)
