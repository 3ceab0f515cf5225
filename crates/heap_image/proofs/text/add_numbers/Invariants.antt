use Rattle.heap_image.proofs.Common.{◌≡◌, ◌++◌, take, flat_map, number_text}
use Rattle.heap_image.proofs.text.add_numbers.Given as goal

abbrev pub invariant-loop-number : goal.invariant-loop-number
invariant-loop-number l = l.text.items ≡ l.fn.text.items ++ flat_map number_text (take l.number-index l.numbers)
