use Rattle.page_data.proofs.Common.{◌≡◌, ◌++◌, take, flat_map, more, names_list}
use Rattle.page_data.proofs.heap.more_chunks.Given as goal

abbrev pub invariant-loop-of : goal.invariant-loop-of
invariant-loop-of l = l.text.items ≡ l.initial.text.items ++ flat_map (λ names. more (names_list names)) (take l.of-index l.rest)
