use Rattle.heap_image.proofs.Common.{◌≡◌, ◌++◌, take, flat_map, field_line}
use Rattle.heap_image.proofs.text.add_fields.Given as goal

abbrev pub invariant-loop-field : goal.invariant-loop-field
invariant-loop-field l = l.text.items ≡ l.fn.text.items ++ flat_map field_line (take l.field-index l.fields)
