use Rattle.shared_tree.proofs.Common.{◌<◌, ◌^◌, arith, option_copied, ap, sym, ◌∙◌, few_at, asks_marked}
use Rattle.shared_tree.proofs.shared.Shared.given_cause.Goals as goal

pub overflow_cast-result : goal.overflow_cast-result
overflow_cast-result c =
    let asks = asks_marked c.args.t c.self.view_is c.self.invariant c.requires.goes c.requires.marking in
    let few : c.in-Some.marking.now.marked < 2 ^ 32 = few_at asks c.in-Some.marking.now (sym c.marking.ensures ∙ ap option_copied c.in-Some.is) in
    let is = c.marked.ensures in
    omega (arith, few, is)
