use Rattle.fork_graph.proofs.Sound as proved
use Rattle.fork_graph.proofs.laws.sound_runs_have_no_fault.Goals as goal

pub returns : goal.returns
returns c = proved.sound_runs_have_no_fault
