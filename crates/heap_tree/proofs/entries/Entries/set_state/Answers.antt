use Rattle.heap_tree.proofs.Common.{◌≡◌, ◌+◌, ◌*◌, List, length, ap, sym, ◌∙◌, arith, Pair}
use Rattle.heap_tree.proofs.PairLemmas.{child_set, entries_length}
use Rattle.heap_tree.proofs.entries.Entries.set_state.Goals as goal

pub change_child-requires : goal.change_child-requires
change_child-requires c =
    let ps : List Pair = c.self.inside.pairs.items in
    let e : length c.args.self.now ≡ 1 + 2 * length ps = sym (ap length c.self.view_is) ∙ entries_length c.self.inside.root ps in
    let made = c.requires in
    let ne = c.if-t-eq0.false in
    omega (arith, e, made, ne)

pub returns : goal.returns
returns c = child_set c.self.inside.root c.self.inside.pairs.items c.change_child.new.pairs.items c.args.t c.args.state c.args.self.now c.if-t-eq0.false c.change_child.ensures c.self.view_is
