use Rattle.log_tasks.proofs.Common.{arith, common_steps}
use Rattle.log_tasks.proofs.Joining.{joins_both}
use Rattle.log_tasks.proofs.graph.joined_by.Goals as goal

pub loop-turn-preserved : goal.loop-turn-preserved
loop-turn-preserved c = λ n. grind (arith, common_steps, joins_both, c.in_ok-note_join.ensures n, c.loop-turn.invariant n)
