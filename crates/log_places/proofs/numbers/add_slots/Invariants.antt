use Rattle.log_places.proofs.Common.{◌≡◌, ◌+◌, ◌++◌, drop, slots_of_page}
use Rattle.log_places.proofs.numbers.add_slots.Given as goal

abbrev pub invariant-loop-stretch : goal.invariant-loop-stretch
invariant-loop-stretch l = record {
  number : l.number ≡ l.first + l.stretch-index;
  slots : l.slots.items ++ slots_of_page l.base l.number (drop l.stretch-index l.stretches) ≡ l.fn.slots.items ++ slots_of_page l.base l.first l.stretches;
}
