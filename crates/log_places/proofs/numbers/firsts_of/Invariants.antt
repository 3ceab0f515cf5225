use Rattle.log_places.proofs.Common.{◌≡◌, ◌+◌, ◌≤◌, ◌++◌, drop, length, sum_by, firsts_from}
use Rattle.log_places.proofs.numbers.firsts_of.Given as goal

abbrev pub invariant-loop-page : goal.invariant-loop-page
invariant-loop-page l = record {
  within : l.next ≤ l.limit;
  count : l.next + sum_by length (drop l.page-index l.pages.items) ≡ sum_by length l.pages.items;
  firsts : l.firsts.items ++ firsts_from l.next (drop l.page-index l.pages.items) ≡ firsts_from 0 l.pages.items;
}
