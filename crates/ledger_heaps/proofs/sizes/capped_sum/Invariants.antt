use Rattle.ledger_heaps.proofs.Common.{◌≡◌, ◌+◌, ◌^◌, take, min, words_sum}
use Rattle.ledger_heaps.proofs.sizes.capped_sum.Given as goal

abbrev pub invariant-loop-name : goal.invariant-loop-name
invariant-loop-name l = l.sum ≡ min (l.words + words_sum l.machine (take l.name-index l.names)) (2 ^ 62)
