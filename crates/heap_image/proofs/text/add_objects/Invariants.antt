use Rattle.heap_image.proofs.Common.{◌≡◌, ◌++◌, take, flat_map, object_line}
use Rattle.heap_image.proofs.text.add_objects.Given as goal

abbrev pub invariant-loop-object : goal.invariant-loop-object
invariant-loop-object l = l.text.items ≡ l.fn.text.items ++ flat_map object_line (take l.object-index l.objects)
