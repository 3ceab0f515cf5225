use Rattle.log_places.proofs.Common.{◌∙◌, length, ap, PlacesValue}
use Rattle.log_places.proofs.Linking.{first_page_there}
use Rattle.log_places.proofs.numbers.Numbers.first_page.Goals as goal

pub returns-clause-there : goal.returns-clause-there
returns-clause-there c =
    first_page_there c.args.block c.self.inside.known.keys (length c.args.self.now.pages) c.copied.result
    (c.copied.ensures ∙ (c.get.ensures.value ∙ c.self.invariant.3.heads c.args.block))
    (c.self.invariant.0 ∙ ap (λ (v : PlacesValue). length v.pages) c.self.view_is)
