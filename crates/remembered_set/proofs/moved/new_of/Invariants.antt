use Rattle.remembered_set.proofs.Common.{ℕ, ◌-◌, ◌<◌, ◌≤◌, get_or, length, Addr, address_key}
use Rattle.remembered_set.proofs.moved.new_of.Given as goal

abbrev pub invariant-loop-low : goal.invariant-loop-low
invariant-loop-low l = record {
  ordered : l.low ≤ l.high;
  within : l.high ≤ length l.moved;
  below : (i : ℕ) (d : Addr × Addr) → i < l.low → address_key (get_or l.moved i d).0 < l.wanted;
  above : (i : ℕ) (d : Addr × Addr) → l.high ≤ i → i < length l.moved → l.wanted < address_key (get_or l.moved i d).0;
}

abbrev pub decreases-loop-low : goal.decreases-loop-low
decreases-loop-low l = l.high - l.low
