use Rattle.log_places.proofs.Common.{◌≡◌, ◌<◌, ◌++◌, ℕ, IfSome, length, drop, stretches_before, next_page, slots_on, slots_of_block}
use Rattle.log_places.proofs.Linking.{left_of}
use Rattle.log_places.proofs.numbers.Numbers.slots_of_block.Given as goal

abbrev pub invariant-loop-at : goal.invariant-loop-at
invariant-loop-at l = record {
  there : IfSome l.at (λ i. i < length l.self.pages);
  done : (k : ℕ) × (l.at ≡ next_page l.block k (drop k l.self.keys))
      × (l.slots.items ++ slots_on l.block (stretches_before l.self.pages k) (drop k l.self.keys) (drop k l.self.pages) ≡ slots_of_block l.self l.block);
}

abbrev pub decreases-loop-at : goal.decreases-loop-at
decreases-loop-at l = left_of l.at (length l.self.pages)
