use Rattle.page_data.proofs.Common.{◌≡◌, ◌++◌, take, flat_map, more, child}
use Rattle.page_data.proofs.delta.more_children.Given as goal

abbrev pub invariant-loop-of : goal.invariant-loop-of
invariant-loop-of l = l.text.items ≡ l.initial.text.items ++ flat_map (λ x. more (child l.program x)) (take l.of-index l.rest)
