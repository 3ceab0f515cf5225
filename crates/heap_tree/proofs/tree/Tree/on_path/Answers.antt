use Rattle.heap_tree.proofs.Common.{refl, sym, ◌∙◌, lt-leb}
use Rattle.heap_tree.proofs.TreeLemmas.{on_path_answer, off_path_answer, walk_answer}
use Rattle.heap_tree.proofs.tree.Tree.on_path.Goals as goal

pub returns-then-depth-entry_at-clause-value : goal.returns-then-depth-entry_at-clause-value
returns-then-depth-entry_at-clause-value c =
    let got = c.entry_at-depth.ensures in
    let up = c.climb_to.ensures.up in
    on_path_answer c.args.self.now c.self.inside.entries c.self.view_is c.self.invariant c.args.reader c.args.owner c.climb_to.result c.entry_at-depth.result.depth c.entry_at-depth.result got refl up

pub returns-then-depth-entry_at-clause-walk : goal.returns-then-depth-entry_at-clause-walk
returns-then-depth-entry_at-clause-walk c =
    walk_answer c.args.self.now c.self.inside.entries c.self.view_is c.self.invariant c.args.reader c.args.owner _ (returns-then-depth-entry_at-clause-value c)

pub returns-else-depth-entry_at-clause-value : goal.returns-else-depth-entry_at-clause-value
returns-else-depth-entry_at-clause-value c =
    let got_a = c.entry_at-depth.ensures in
    let got_t = c.entry_at.ensures in
    lt-leb c.entry_at-depth.result.depth c.entry_at.result.depth c.if-depth-entry_at.false
    ∙ sym (off_path_answer c.args.self.now c.self.inside.entries c.self.view_is c.self.invariant c.args.reader c.args.owner c.entry_at-depth.result c.entry_at.result got_a got_t c.if-depth-entry_at.false)

pub returns-else-depth-entry_at-clause-walk : goal.returns-else-depth-entry_at-clause-walk
returns-else-depth-entry_at-clause-walk c =
    walk_answer c.args.self.now c.self.inside.entries c.self.view_is c.self.invariant c.args.reader c.args.owner _ (returns-else-depth-entry_at-clause-value c)
