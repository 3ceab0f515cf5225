use Rattle.log_places.proofs.Common.{ℕ, ◌<◌, ◌≤◌, ◌-◌, length, get_or, Stretch}
use Rattle.log_places.proofs.stretch.ended.Given as goal

abbrev pub invariant-loop-low : goal.invariant-loop-low
invariant-loop-low l = record {
  order : l.low ≤ l.high;
  within : l.high ≤ length l.stretches;
  ended : (k : ℕ) (d : Stretch) → k < l.low → (get_or l.stretches k d).end ≤ l.location;
  next : (d : Stretch) → l.high < length l.stretches → l.location < (get_or l.stretches l.high d).end;
}

abbrev pub decreases-loop-low : goal.decreases-loop-low
decreases-loop-low l = l.high - l.low
