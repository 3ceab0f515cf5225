use Rattle.log_strands.proofs.Common.{◌≡◌, ◌+◌, length, acts_in}
use Rattle.log_strands.proofs.acts.count_on.Given as goal

abbrev pub invariant-loop-rest : goal.invariant-loop-rest
invariant-loop-rest l = l.count + length (acts_in l.left) ≡ l.before + length (acts_in l.fn.text)

abbrev pub decreases-loop-rest : goal.decreases-loop-rest
decreases-loop-rest l = length l.left
