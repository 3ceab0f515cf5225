use Rattle.std.proofs.Common.{◌≡◌, length, map}
use Rattle.near_words.specs.Near.{first_such, is_within_two}
use Rattle.near_words.proofs.near.first_within_two.Given as goal

abbrev pub invariant-loop-left : goal.invariant-loop-left
invariant-loop-left l = first_such (is_within_two l.word) (map (λ w. w.now) l.left) ≡ first_such (is_within_two l.word) (map (λ w. w.now) l.words)

abbrev pub decreases-loop-left : goal.decreases-loop-left
decreases-loop-left l = length l.left
