use Rattle.page_data.proofs.Common.{◌≡◌, ◌++◌, take, flat_map, more, number}
use Rattle.page_data.proofs.delta.more_numbers.Given as goal

abbrev pub invariant-loop-held : goal.invariant-loop-held
invariant-loop-held l = l.text.items ≡ l.initial.text.items ++ flat_map (λ x. more (number x)) (take l.held-index l.ints)
