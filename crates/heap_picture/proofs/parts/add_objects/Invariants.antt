use Rattle.heap_picture.proofs.Common.{◌≡◌, ◌++◌, map, reverse, vec_len, drawn_object}
use Rattle.heap_picture.proofs.parts.add_objects.Given as goal

abbrev pub invariant-loop-object : goal.invariant-loop-object
invariant-loop-object l = l.objects ++ map drawn_object (reverse l.left.items) ≡ l.fn.objects ++ map drawn_object l.fn.seen

abbrev pub decreases-loop-object : goal.decreases-loop-object
decreases-loop-object l = vec_len l.left
