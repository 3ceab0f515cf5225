use Rattle.run_graph_laws.proofs.RunTold.{logs_tell_tasks}
use Rattle.run_graph_laws.proofs.logs_tell_tasks.Goals as goal

pub returns : goal.returns
returns c = logs_tell_tasks
