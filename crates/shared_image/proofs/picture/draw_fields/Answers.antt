use Rattle.shared_image.proofs.Common.{◌++◌, None, get_or, map, ap, ◌∙◌, slice_get-get_or, Ready, SharedValue, LiveTask, drawn_field}
use Rattle.heap_picture.proofs.Rounds.{fields_step}
use Rattle.shared_image.proofs.picture.draw_fields.Goals as goal

pub loop-task-preserved : goal.loop-task-preserved
loop-task-preserved c =
    let w : SharedValue = c.args.shared.now in
    let xs = c.args.live.now in
    let i = c.loop-task.task-index in
    let none : LiveTask = record { number = 0; parent = None; state = Ready } in
    let is = slice_get-get_or xs i none c.loop-task-test.true in
    fields_step w c.stands.ensures xs i _ c.requires is c.loop-task.fields c.add_fields.new.fields c.in_ok-noted.noted c.loop-task.invariant c.in_ok-noted.ensures (c.in_ok-add_fields.ensures ∙ ap (λ zs. c.loop-task.fields ++ map (drawn_field (get_or xs i none).number) zs) c.as_slice.ensures)
