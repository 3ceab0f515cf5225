use Rattle.image_check.proofs.Common.{◌≡◌, length, lines_of, with_lines}
use Rattle.image_check.proofs.whole.Whole.add_lines.Given as goal

abbrev pub invariant-loop-more : goal.invariant-loop-more
invariant-loop-more l = with_lines l.self (lines_of l.rest) ≡ with_lines l.initial.self (lines_of l.text)

abbrev pub decreases-loop-more : goal.decreases-loop-more
decreases-loop-more l = length l.rest
