use Rattle.heap_image.proofs.Common.{◌≡◌, ◌++◌, take, flat_map, reference_text}
use Rattle.heap_image.proofs.text.add_references.Given as goal

abbrev pub invariant-loop-reference : goal.invariant-loop-reference
invariant-loop-reference l = l.text.items ≡ l.fn.text.items ++ flat_map reference_text (take l.reference-index l.references)
