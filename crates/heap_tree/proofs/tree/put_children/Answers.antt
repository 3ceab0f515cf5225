use Rattle.heap_tree.proofs.Common.{[], ◌∷◌, Waiting}
use Rattle.heap_tree.proofs.PairLemmas.{front_set}
use Rattle.heap_tree.proofs.tree.put_children.Goals as goal

pub returns-clause-ok : goal.returns-clause-ok
returns-clause-ok c = front_set c.args.entries.now (c.args.child ∷ (c.args.child ∷ [])) c.push_two.new.self c.set_state.new.self c.args.t Waiting c.requires.made c.in_ok-push_two.ensures.ok c.set_state.ensures
