use Rattle.page_data.proofs.Common.{◌≡◌, ◌++◌, take, flat_map, more, name}
use Rattle.page_data.proofs.heap.more_names.Given as goal

abbrev pub invariant-loop-of : goal.invariant-loop-of
invariant-loop-of l = l.text.items ≡ l.initial.text.items ++ flat_map (λ n. more (name n)) (take l.of-index l.rest)
