use Rattle.std.proofs.Common.{sym, ap, ◌∙◌}
use Rattle.race_report.specs.declared.data.Watch.TheVariants.{Open as Waits}
use Rattle.race_report.proofs.Watched.{raced, waits}
use Rattle.race_report.proofs.watch.open_with.Goals as goal

pub returns-in-Some : goal.returns-in-Some
returns-in-Some c = raced c.args.known c.args.seen c.in-Some.race (sym c.in-Some.is ∙ c.race_with.ensures)

pub returns-in_ok-add-in-None : goal.returns-in_ok-add-in-None
returns-in_ok-add-in-None c = ap Waits c.in_ok-add-in-None.ensures ∙ waits c.args.known c.args.seen (sym c.in-None.is ∙ c.race_with.ensures)
