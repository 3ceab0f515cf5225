use Rattle.log_lines.proofs.Common.{◌≡◌, ℕ, ◌<◌, get_or, false, is_space}
use Rattle.log_lines.proofs.words.word_end.Given as goal

abbrev pub invariant-loop-i : goal.invariant-loop-i
invariant-loop-i l = (k : ℕ) → k < l.i → is_space (get_or l.text k 0) ≡ false
