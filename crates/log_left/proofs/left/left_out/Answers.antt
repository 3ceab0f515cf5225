use Rattle.std.proofs.Common.{◌≡◌, ◌∙◌, ℕ, List, Option, subst, sym, ap, length, arith}
use Rattle.log_form.specs.Events.{events_of}
use Rattle.log_strands.specs.Places.{ArePiecePlaces}
use Rattle.log_left.specs.Left.{HasLeftOut, left_codes}
use Rattle.log_left.proofs.Codes.{left_are}
use Rattle.log_left.proofs.left.left_out.Goals as goal

pub returns : goal.returns
returns c =
    let texts = c.args.texts.now in
    let pieces = c.args.pieces.now in
    let places = c.in_ok-places.places in
    let n : c.len.result ≡ length c.ascending.result.items = omega (arith, c.len.ensures, c.ascending.result.ok.0) in
    subst (HasLeftOut (events_of texts) c.args.tasks.now c.args.order.now) (sym n)
    (left_are texts c.args.tasks.now c.args.order.now pieces places (events_of texts) c.in_ok-codes.codes.items c.ascending.result.items c.requires c.in_ok-places.ensures
    (c.in_ok-codes.ensures ∙ ap (left_codes texts pieces) c.as_slice.ensures) c.ascending.ensures.ascending c.ascending.ensures.kept c.ascending.ensures.no_other)
