use Rattle.fork_graph.proofs.Cut as proved
use Rattle.fork_graph.proofs.laws.completed_are_nested.Goals as goal

pub returns : goal.returns
returns c = proved.completed_are_nested
