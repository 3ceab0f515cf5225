use Rattle.race_groups.proofs.Common.{◌≡◌, ◌++◌, length, spaced_words}
use Rattle.race_groups.proofs.source.add_words.Given as goal

abbrev pub invariant-loop-word : goal.invariant-loop-word
invariant-loop-word l = l.text.items ++ spaced_words l.rest ≡ l.initial.text.items ++ spaced_words l.line

abbrev pub decreases-loop-word : goal.decreases-loop-word
decreases-loop-word l = length l.rest
