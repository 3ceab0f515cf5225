use Rattle.page_data.proofs.Common.{◌≡◌, ◌++◌, take, flat_map, more, reference}
use Rattle.page_data.proofs.delta.more_references.Given as goal

abbrev pub invariant-loop-held : goal.invariant-loop-held
invariant-loop-held l = l.text.items ≡ l.initial.text.items ++ flat_map (λ x. more (reference x)) (take l.held-index l.refs)
