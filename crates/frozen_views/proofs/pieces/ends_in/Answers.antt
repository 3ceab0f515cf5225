use Rattle.frozen_views.proofs.Common.{◌≡◌, ◌∙◌, Some, ap, sym, subst, true, eqb-true}
use Rattle.frozen_views.proofs.Levels as levels
use Rattle.frozen_views.proofs.pieces.ends_in.Goals as goal

pub returns-in-Some : goal.returns-in-Some
returns-in-Some c = λ e.
    let same : c.in-Some.last.now ≡ c.args.number = eqb-true c.in-Some.last.now c.args.number e in
    levels.last_among c.args.numbers.now c.args.number (sym c.in-Some.ensures.value ∙ ap Some same)
