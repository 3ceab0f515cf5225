use Rattle.std.proofs.Common.{◌≡◌, length}
use Rattle.near_words.specs.Near.{differing_rests}
use Rattle.near_words.proofs.near.differing_rests.Given as goal

abbrev pub invariant-loop-left : goal.invariant-loop-left
invariant-loop-left l = differing_rests l.left l.right ≡ differing_rests l.word l.other

abbrev pub decreases-loop-left : goal.decreases-loop-left
decreases-loop-left l = length l.left
