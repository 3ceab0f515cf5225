use Rattle.shared_tree.proofs.Common.{◌≡◌, option_copied, ap, sym, ◌∙◌, heap_of, left_in, sweep_number, SharedValue, accounts, never_gone, would_be, the_view, asks_marked, waits}
use Rattle.shared_tree.proofs.shared.Shared.would_give.Goals as goal

pub unreachable-requires : goal.unreachable-requires
unreachable-requires c = never_gone (waits (asks_marked c.args.t c.self.view_is c.self.invariant c.requires.goes c.requires.marked)) (sym c.rest.ensures ∙ ap option_copied c.in_default.is)

pub would_give-requires : goal.would_give-requires
would_give-requires c =
    let asks = asks_marked c.args.t c.self.view_is c.self.invariant c.requires.goes c.requires.marked in
    let none_left : left_in (heap_of (accounts (the_view c.self.inside)) c.args.t) ≡ 0 = ap (λ (z : SharedValue). left_in (heap_of (accounts z) c.args.t)) c.self.view_is ∙ c.requires.none_left in
    (would_be asks none_left c.in-Some.rest.now c.in-Some-marking.marking.now (sym c.rest.ensures ∙ ap option_copied c.in-Some.is) (sym c.marking.ensures ∙ ap option_copied c.in-Some-marking.is)).0

pub returns : goal.returns
returns c =
    let asks = asks_marked c.args.t c.self.view_is c.self.invariant c.requires.goes c.requires.marked in
    let none_left : left_in (heap_of (accounts (the_view c.self.inside)) c.args.t) ≡ 0 = ap (λ (z : SharedValue). left_in (heap_of (accounts z) c.args.t)) c.self.view_is ∙ c.requires.none_left in
    let would = would_be asks none_left c.in-Some.rest.now c.in-Some-marking.marking.now (sym c.rest.ensures ∙ ap option_copied c.in-Some.is) (sym c.marking.ensures ∙ ap option_copied c.in-Some-marking.is) in
    c.would_give.ensures ∙ (would.1 ∙ ap (λ (z : SharedValue). sweep_number (accounts z).machine (heap_of (accounts z) c.args.t)) c.self.view_is)
