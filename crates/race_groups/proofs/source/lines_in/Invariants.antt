use Rattle.race_groups.proofs.Common.{◌≡◌, ◌++◌, map, length, lines_of}
use Rattle.race_groups.proofs.source.lines_in.Given as goal

abbrev pub invariant-loop-lines : goal.invariant-loop-lines
invariant-loop-lines l = map (λ x. x.now) l.lines.items ++ lines_of l.rest ≡ lines_of l.text

abbrev pub decreases-loop-lines : goal.decreases-loop-lines
decreases-loop-lines l = length l.rest
