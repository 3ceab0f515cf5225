use Rattle.log_tasks.proofs.Common.{◌≡◌, length, acts_in, is_told}
use Rattle.log_tasks.proofs.told.is_told.Given as goal

abbrev pub invariant-lines : goal.invariant-lines
invariant-lines l = is_told (acts_in l.left) ≡ is_told (acts_in l.fn.text)

abbrev pub decreases-lines : goal.decreases-lines
decreases-lines l = length l.left
