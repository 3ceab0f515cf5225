use Rattle.ledger_heaps.proofs.Common.{◌≡◌, ◌+◌, drop, flat_map, words_sum, small_in}
use Rattle.ledger_heaps.proofs.sizes.small_words.Given as goal

abbrev pub invariant-loop-names : goal.invariant-loop-names
invariant-loop-names l = l.words + words_sum l.machine (flat_map (λ ns. ns) (drop l.names-index l.heap.chunks)) ≡ words_sum l.machine (small_in l.heap)
