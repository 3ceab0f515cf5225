use Rattle.ledger_heaps.proofs.Common.{◌≡◌, ◌^◌, take, min, flat_map, words_sum}
use Rattle.ledger_heaps.proofs.sizes.is_countable.Given as goal

abbrev pub invariant-loop-names : goal.invariant-loop-names
invariant-loop-names l = l.words ≡ min (words_sum l.machine (flat_map (λ ns. ns) (take l.names-index l.heap.chunks))) (2 ^ 62)
