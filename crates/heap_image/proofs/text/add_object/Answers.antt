use Rattle.std.proofs.Common.{◌∙◌}
use Rattle.heap_image.proofs.Spaced.{object_made, on_ok}
use Rattle.heap_image.proofs.text.add_object.Goals as goal

pub returns : goal.returns
returns c =
    on_ok c.extend_from_slice-2.result c.extend_from_slice-2.new.self.items c.add_numbers.new.text.items _ c.extend_from_slice-2.ensures.items
    (λ e. e ∙ object_made c.args.object.now c.args.text.now.items _ c.as_bytes.result.now c.extend_from_slice.new.self.items c.add_references.new.text.items c.add_numbers.new.text.items
    c.as_slice.result.now c.as_slice-2.result.now
    c.in_ok-head.ensures c.as_bytes.ensures.value c.in_ok-extend_from_slice.ensures.items c.as_slice.ensures c.as_slice-2.ensures
    c.in_ok-add_references.ensures c.in_ok-add_numbers.ensures)
