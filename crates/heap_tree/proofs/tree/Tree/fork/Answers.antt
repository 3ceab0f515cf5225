use Rattle.heap_tree.proofs.Common.{ℕ, ◌+◌, ◌<◌, Some, refl, ap, arith, depth_limit, Linked, Ready, Out}
use Rattle.heap_tree.proofs.TreeLemmas.{made_from_state, made_entry, fork_shallow, depth_answer, fork_answer}
use Rattle.heap_tree.proofs.tree.Tree.fork.Goals as goal

pub overflow_add-child : goal.overflow_add-child
overflow_add-child c =
    let made = made_from_state c.args.self.now c.args.t Out c.requires.out in
    let got = c.entry_at.ensures in
    let low : c.entry_at.result.depth < depth_limit = fork_shallow c.args.self.now c.self.inside.entries c.self.view_is c.self.invariant c.args.t c.entry_at.result made got c.requires.shallow in
    omega arith

pub put_children-requires-clause-shallow : goal.put_children-requires-clause-shallow
put_children-requires-clause-shallow c =
    let made = made_from_state c.args.self.now c.args.t Out c.requires.out in
    let got = c.entry_at.ensures in
    let low : c.entry_at.result.depth < depth_limit = fork_shallow c.args.self.now c.self.inside.entries c.self.view_is c.self.invariant c.args.t c.entry_at.result made got c.requires.shallow in
    omega arith

pub far_below-requires-clause-there : goal.far_below-requires-clause-there
far_below-requires-clause-there c =
    let made = made_from_state c.args.self.now c.args.t Out c.requires.out in
    (made_entry c.args.self.now c.self.inside.entries c.self.view_is c.self.invariant c.args.t made)

pub put_children-requires-clause-made : goal.put_children-requires-clause-made
put_children-requires-clause-made c =
    let made = made_from_state c.args.self.now c.args.t Out c.requires.out in
    made_entry c.args.self.now c.self.inside.entries c.self.view_is c.self.invariant c.args.t made

pub invariant_of-self-2 : goal.invariant_of-self-2
invariant_of-self-2 c =
    let v = c.args.self.now in
    let es = c.self.inside.entries in
    let t = c.args.t in
    let made = made_from_state v t Out c.requires.out in
    let got = c.entry_at.ensures in
    let deep = depth_answer v es c.self.view_is c.self.invariant t c.entry_at.result made got in
    let far = c.far_below.ensures.value in
    let put = c.in_ok-put_children.ensures.ok in
    let child : Linked = record { parent = Some t; depth = c.entry_at.result.depth + 1; far = c.far_below.result; state = Ready } in
    (fork_answer v es c.put_children.new.entries t child c.self.view_is c.self.invariant made c.requires.few refl (ap (λ (m : ℕ). m + 1) deep) far refl put).0

pub returns-clause-ok : goal.returns-clause-ok
returns-clause-ok c =
    let v = c.args.self.now in
    let es = c.self.inside.entries in
    let t = c.args.t in
    let made = made_from_state v t Out c.requires.out in
    let got = c.entry_at.ensures in
    let deep = depth_answer v es c.self.view_is c.self.invariant t c.entry_at.result made got in
    let far = c.far_below.ensures.value in
    let put = c.in_ok-put_children.ensures.ok in
    let child : Linked = record { parent = Some t; depth = c.entry_at.result.depth + 1; far = c.far_below.result; state = Ready } in
    (fork_answer v es c.put_children.new.entries t child c.self.view_is c.self.invariant made c.requires.few refl (ap (λ (m : ℕ). m + 1) deep) far refl put).1
