use Rattle.std.proofs.Common.{rules}
use Rattle.race_report.proofs.Wholes.{none_refused}
use Rattle.race_report.proofs.report.races_of_run.Goals as goal

pub races_of-requires : goal.races_of-requires
races_of-requires c = none_refused c.args.program.now c.args.settings c.args.journal.now (search rules)
