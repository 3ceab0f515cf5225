use Rattle.log_touches.proofs.Common.{◌≡◌, ◌+◌, ◌++◌, List, All, length, acts_in, Region, IsRegionCut, AreMarked, Touch, HasScanned, regions_of_acts, touches_from}
use Rattle.log_touches.proofs.scan.touch_text.Given as goal

abbrev pub invariant-lines : goal.invariant-lines
invariant-lines g l = record {
  size : length l.scan.cells ≡ length l.fn.scan.cells;
  cut : All (IsRegionCut l.numbers) (regions_of_acts (acts_in l.left));
  count : l.number + length (acts_in l.left) ≡ l.at.1 + length (acts_in l.fn.text);
  done : (regions : List Region) → AreMarked regions l.numbers
      → (ts : List Touch) × (ts ++ touches_from regions l.at.0 l.number (acts_in l.left) ≡ touches_from regions l.at.0 l.at.1 (acts_in l.fn.text))
      × ((past : List Touch) → HasScanned (g.S.Strands.order l.order) l.numbers past l.fn.scan → HasScanned (g.S.Strands.order l.order) l.numbers (past ++ ts) l.scan);
}

abbrev pub decreases-lines : goal.decreases-lines
decreases-lines g l = length l.left
