use Rattle.log_places.proofs.Common.{◌≡◌, length, subst, PlacesValue}
use Rattle.log_places.proofs.Counted.{stretches_are_counted}
use Rattle.log_places.proofs.places.Places.number.Goals as goal

pub returns-clause-count : goal.returns-clause-count
returns-clause-count c = λ rs are.
    stretches_are_counted rs c.args.self are (subst (λ (v : PlacesValue). length v.keys ≡ length v.pages) c.self.view_is c.self.invariant.0)
