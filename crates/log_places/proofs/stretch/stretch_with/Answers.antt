use Rattle.std.proofs.Common.{sym}
use Rattle.log_places.proofs.Ends.{has_there, none_behind, none_past, none_too}
use Rattle.log_places.proofs.stretch.stretch_with.Goals as goal

pub returns-in_err-stretch-clause-none : goal.returns-in_err-stretch-clause-none
returns-in_err-stretch-clause-none c =
    none_too c.from_residual.result _
    (none_past c.args.stretches.now c.ended-place.result c.args.location c.requires c.ended-place.ensures.ended (sym c.in_err-stretch.ensures))

pub returns-then-stretch-location-clause-some : goal.returns-then-stretch-location-clause-some
returns-then-stretch-location-clause-some c = (
  sym c.in_ok-stretch.ensures,
  has_there c.args.stretches.now c.ended-place.result c.args.location c.in_ok-stretch.stretch (sym c.in_ok-stretch.ensures) c.if-stretch-location.true c.ended-place.ensures.next,
)

pub returns-clause-none : goal.returns-clause-none
returns-clause-none c =
    none_behind c.args.stretches.now c.ended-place.result c.args.location c.requires c.ended-place.ensures.ended c.in_ok-stretch.stretch (sym c.in_ok-stretch.ensures)
    c.if-stretch-location.false
