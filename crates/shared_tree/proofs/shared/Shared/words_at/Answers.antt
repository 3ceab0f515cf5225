use Rattle.shared_tree.proofs.Common.{option_copied, ap, sym, ◌∙◌, heap_of, words_in, saturating_words, SharedValue, accounts, words_now, asks_waiting, never_gone}
use Rattle.shared_tree.proofs.shared.Shared.words_at.Goals as goal

pub unreachable-requires : goal.unreachable-requires
unreachable-requires c = never_gone (asks_waiting c.args.t c.self.view_is c.self.invariant c.requires.goes c.requires.waits) (sym c.rest.ensures ∙ ap option_copied c.in-None.is)

pub returns : goal.returns
returns c =
    let asks = asks_waiting c.args.t c.self.view_is c.self.invariant c.requires.goes c.requires.waits in
    c.words.ensures
    ∙ (ap saturating_words (sym (words_now asks c.in-Some.rest.now (sym c.rest.ensures ∙ ap option_copied c.in-Some.is)))
    ∙ ap (λ (z : SharedValue). saturating_words (words_in (accounts z).machine (heap_of (accounts z) c.args.t))) c.self.view_is)
