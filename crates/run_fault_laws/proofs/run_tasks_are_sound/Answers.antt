use Rattle.run_fault_laws.proofs.Sound.{run_tasks_are_sound}
use Rattle.run_fault_laws.proofs.run_tasks_are_sound.Goals as goal

pub returns : goal.returns
returns c = run_tasks_are_sound
