use Rattle.log_places.proofs.Common.{◌≡◌, ◌+◌, ◌<◌, ◌∙◌, length, drop, ap, sym, arith, same_Some, got_some, PlacesValue, next_page}
use Rattle.log_places.proofs.Linking.{next_page_there}
use Rattle.log_places.proofs.numbers.Numbers.next_page.Goals as goal

pub returns-clause-there : goal.returns-clause-there
returns-clause-there c =
    let keys = c.self.inside.known.keys in
    let size : length keys ≡ length c.args.self.now.pages = c.self.invariant.0 ∙ ap (λ (v : PlacesValue). length v.pages) c.self.view_is in
    let lt : c.args.i < length keys = omega (arith, size, c.requires) in
    let got = got_some keys c.args.i lt in
    let next = same_Some c.at.result.now (next_page got.0.block (c.args.i + 1) (drop (c.args.i + 1) keys)) (sym c.at.ensures ∙ c.self.invariant.3.nexts c.args.i got.0 got.1) in
    next_page_there got.0.block keys c.args.i (length c.args.self.now.pages) c.at.result.now lt next size
