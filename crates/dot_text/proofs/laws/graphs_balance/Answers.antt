use Rattle.dot_text.proofs.Graphs as proved
use Rattle.dot_text.proofs.laws.graphs_balance.Goals as goal

pub returns : goal.returns
returns c = proved.graphs_balance
