use Rattle.text_lines.proofs.Common.{◌≡◌, ℕ, ◌<◌, get_or, false, is_blank}
use Rattle.text_lines.proofs.words.run_end.Given as goal

abbrev pub invariant-loop-i : goal.invariant-loop-i
invariant-loop-i l = (k : ℕ) → k < l.i → is_blank (get_or l.line k 0) ≡ false
