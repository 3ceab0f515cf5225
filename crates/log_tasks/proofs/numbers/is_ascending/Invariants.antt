use Rattle.log_tasks.proofs.Common.{◌<◌, ◌+◌, ℕ, get_or}
use Rattle.log_tasks.proofs.numbers.is_ascending.Given as goal

abbrev pub invariant-loop-place : goal.invariant-loop-place
invariant-loop-place l = (k : ℕ) → k + 1 < l.place → get_or l.numbers k 0 < get_or l.numbers (k + 1) 0
