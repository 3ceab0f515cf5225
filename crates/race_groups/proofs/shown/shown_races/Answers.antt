use Rattle.race_groups.proofs.Common.{ap, ◌∙◌, shown_of}
use Rattle.race_groups.proofs.shown.shown_races.Goals as goal

pub returns-clause-shown : goal.returns-clause-shown
returns-clause-shown c = (
  c.in_ok-races.races.items,
  c.in_ok-races.ensures.report,
  c.in_ok-show.ensures ∙ ap (shown_of c.args.source.now c.args.program.now) c.as_slice.ensures.value,
)
