use Rattle.text_faults.proofs.Common.{◌≡◌, ℕ, ◌<◌, get_or, false, is_blank}
use Rattle.text_faults.proofs.placed.run_end.Given as goal

abbrev pub invariant-loop-i : goal.invariant-loop-i
invariant-loop-i l = (k : ℕ) → k < l.i → is_blank (get_or l.bytes k 0) ≡ false
