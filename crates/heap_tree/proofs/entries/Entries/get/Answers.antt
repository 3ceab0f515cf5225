use Rattle.heap_tree.proofs.Common.{◌≡◌, ◌==◌, ◌-◌, ◌/◌, ◌%◌, List, None, Some, slice_get, option_map, ap, sym, ◌∙◌, Linked, Pair, child_entry}
use Rattle.heap_tree.proofs.PairLemmas.{got_child}
use Rattle.heap_tree.proofs.entries.Entries.get.Goals as goal

pub returns-in-Some : goal.returns-in-Some
returns-in-Some c =
    let ps : List Pair = c.self.inside.pairs.items in
    let is : slice_get ps ((c.args.t - 1) / 2) ≡ Some c.in-Some.pair = sym c.pair_at.ensures ∙ c.in-Some.is in
    ap (λ (e : Linked). Some e) c.child_entry.ensures
    ∙ (sym (ap (option_map (λ p. child_entry p ((c.args.t - 1) % 2 == 0))) is)
    ∙ (sym (got_child c.self.inside.root ps c.args.t c.if-t-eq0.false) ∙ ap (λ (es : List Linked). slice_get es c.args.t) c.self.view_is))

pub returns-in-None : goal.returns-in-None
returns-in-None c =
    let ps : List Pair = c.self.inside.pairs.items in
    let is : slice_get ps ((c.args.t - 1) / 2) ≡ None = sym c.pair_at.ensures ∙ c.in-None.is in
    sym (ap (option_map (λ p. child_entry p ((c.args.t - 1) % 2 == 0))) is)
    ∙ (sym (got_child c.self.inside.root ps c.args.t c.if-t-eq0.false) ∙ ap (λ (es : List Linked). slice_get es c.args.t) c.self.view_is)
