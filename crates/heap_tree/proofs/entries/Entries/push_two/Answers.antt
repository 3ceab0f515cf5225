use Rattle.heap_tree.proofs.Common.{◌≡◌, false, ap, sym, Linked, Pair, child_entry}
use Rattle.heap_tree.proofs.PairLemmas.{two_more}
use Rattle.heap_tree.proofs.entries.Entries.push_two.Goals as goal

pub returns-clause-ok : goal.returns-clause-ok
returns-clause-ok c =
    let x : Linked = c.args.child in
    let p : Pair = record { parent = c.args.parent; far = x.far; depth = x.depth; left = x.state; right = x.state } in
    let same : child_entry p false ≡ x = ap (λ o. let y : Linked = record { parent = o; depth = x.depth; far = x.far; state = x.state } in y) (sym c.requires.parent) in
    two_more c.self.inside.root c.self.inside.pairs.items c.push.new.self.items p x c.args.self.now same same c.in_ok-push.ensures.items c.self.view_is
