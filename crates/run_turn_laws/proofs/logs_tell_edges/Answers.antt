use Rattle.run_turn_laws.proofs.Legal.{logs_tell_edges}
use Rattle.run_turn_laws.proofs.logs_tell_edges.Goals as goal

pub returns : goal.returns
returns c = logs_tell_edges
