use Rattle.heap_image.proofs.Common.{lines_more, field_line}
use Rattle.heap_image.proofs.text.add_fields.Goals as goal

pub loop-field-preserved : goal.loop-field-preserved
loop-field-preserved c =
    lines_more field_line c.args.fields.now c.loop-field.field-index (record { task = 0; address = 0; place = 0 })
    c.args.text.now.items c.loop-field.text.items c.add_field.new.text.items
    c.loop-field-test.true c.loop-field.invariant c.in_ok-add_field.ensures
