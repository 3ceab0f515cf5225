use Rattle.log_races.proofs.Common.{◌∙◌, Err, IfErr, ap, sym, subst, err_from_is_err_and, events_of_pieces, regions_of_events, stretch_count, IsTooLargeFor}
use Rattle.log_races.proofs.Parts.{over_for}
use Rattle.log_races.proofs.races.numbers_of.Goals as goal

pub returns-in_err-numbers-clause-refused : goal.returns-in_err-numbers-clause-refused
returns-in_err-numbers-clause-refused c =
    let events = events_of_pieces c.args.texts.now c.args.pieces.now in
    let given = err_from_is_err_and c.from_residual-in_err-numbers.result c.from_residual-in_err-numbers.ensures.1 in
    subst (λ r. IfErr r (IsTooLargeFor events c.args.limit)) (sym (given.1 ∙ ap Err given.2))
    (over_for events c.args.limit c.in_err-numbers.field-0.0
    (λ e. (stretch_count c.in_ok-places.places, c.in_err-numbers.ensures.count (regions_of_events events) c.in_ok-places.ensures.marked, c.in_err-numbers.ensures.over (ap Err e))))
