use Rattle.heap_picture.proofs.Common.{◌≡◌, ◌++◌, map, take, drawn_field}
use Rattle.heap_picture.proofs.parts.add_fields.Given as goal

abbrev pub invariant-loop-field : goal.invariant-loop-field
invariant-loop-field l = l.fields ≡ l.fn.fields ++ map (drawn_field l.task) (take l.field-index l.noted)
