use Rattle.told_graph_laws.proofs.Graphs.{logs_tell_graphs}
use Rattle.told_graph_laws.proofs.logs_tell_graphs.Goals as goal

pub returns : goal.returns
returns c = logs_tell_graphs
