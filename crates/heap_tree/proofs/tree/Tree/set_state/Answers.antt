use Rattle.heap_tree.proofs.TreeLemmas.{state_answer}
use Rattle.heap_tree.proofs.tree.Tree.set_state.Goals as goal

pub invariant_of-self : goal.invariant_of-self
invariant_of-self c =
    (state_answer c.args.self.now c.self.inside.entries c.set_state.new.self c.args.t c.args.state c.self.view_is c.self.invariant c.requires c.set_state.ensures).0

pub returns : goal.returns
returns c =
    (state_answer c.args.self.now c.self.inside.entries c.set_state.new.self c.args.t c.args.state c.self.view_is c.self.invariant c.requires c.set_state.ensures).1
