use Rattle.heap_tree.proofs.Common.{◌≡◌, ◌+◌, ◌*◌, List, length, vec_len, ap, sym, ◌∙◌, arith, Pair}
use Rattle.heap_tree.proofs.PairLemmas.{entries_length}
use Rattle.heap_tree.proofs.entries.Entries.len.Goals as goal

pub overflow_cast-result : goal.overflow_cast-result
overflow_cast-result c =
    let ps : List Pair = c.self.inside.pairs.items in
    let e : length c.args.self.now ≡ 1 + 2 * length ps = sym (ap length c.self.view_is) ∙ entries_length c.self.inside.root ps in
    let v : vec_len c.self.inside.pairs ≡ length ps = c.self.inside.pairs.ok.0 in
    let n : c.len.result ≡ vec_len c.self.inside.pairs = c.len.ensures in
    let few = c.requires in
    omega (arith, e, v, n, few)

pub returns : goal.returns
returns c =
    let ps : List Pair = c.self.inside.pairs.items in
    let e : length c.args.self.now ≡ 1 + 2 * length ps = sym (ap length c.self.view_is) ∙ entries_length c.self.inside.root ps in
    let v : vec_len c.self.inside.pairs ≡ length ps = c.self.inside.pairs.ok.0 in
    let n : c.len.result ≡ vec_len c.self.inside.pairs = c.len.ensures in
    omega (arith, e, v, n)
