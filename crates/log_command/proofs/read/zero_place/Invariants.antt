use Rattle.log_command.proofs.Common.{◌≡◌, ℕ, ◌<◌, get_or, false, is_zero}
use Rattle.log_command.proofs.read.zero_place.Given as goal

abbrev pub invariant-loop-i : goal.invariant-loop-i
invariant-loop-i l = (k : ℕ) → k < l.i → is_zero (get_or l.file k 0) ≡ false
