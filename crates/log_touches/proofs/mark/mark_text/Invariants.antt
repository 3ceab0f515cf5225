use Rattle.log_touches.proofs.Common.{◌≡◌, ◌≤◌, ◌+◌, ◌++◌, List, length, acts_in, Region, AreMarked, regions_of_acts, most_acts}
use Rattle.log_touches.proofs.mark.mark_text.Given as goal

abbrev pub invariant-lines : goal.invariant-lines
invariant-lines l = record {
  few : l.number ≤ most_acts;
  count : l.number + length (acts_in l.left) ≡ l.first + length (acts_in l.fn.text);
  done : (rs : List Region) × (rs ++ regions_of_acts (acts_in l.left) ≡ regions_of_acts (acts_in l.fn.text))
      × ((past : List Region) → AreMarked past l.fn.places → AreMarked (past ++ rs) l.places);
}

abbrev pub decreases-lines : goal.decreases-lines
decreases-lines l = length l.left
