use Rattle.task_slots.proofs.Common.{rules, ◌<◌, ◌≡◌, Some, length, slice_get, refl, ap, sym, ◌∙◌, on_ok_weaker, on_err_weaker, vec_capacity, got_item, content_of, with_source}
use Rattle.task_slots.proofs.Places.{block_within, same_contents, set_only, changed_content, roomy_stays}
use Rattle.task_slots.proofs.Contents.{keeps_same, source_here, source_off}
use Rattle.task_slots.proofs.slots.TaskSlots.note_in_block.Goals as goal

pub returns-clause-task_slots : goal.returns-clause-task_slots
returns-clause-task_slots c =
    let lt : c.args.t < length c.self.inside.list.items = block_within c.self.inside.list.items _ c.args.self.now c.self.view_is c.args.t c.requires.block in
    let there0 : slice_get c.self.inside.list.items c.args.t ≡ Some c.index_mut.result.now = got_item c.self.inside.list.items c.args.t c.index_mut.result.now lt (search rules) in
    let here : c.index_mut.result.now ≡ Some c.get_mut.result.now = search rules in
    let there : slice_get c.self.inside.list.items c.args.t ≡ Some (Some c.get_mut.result.now) = there0 ∙ ap Some here in
    set_only c.self.inside.list.items (vec_capacity c.self.inside.list) c.args.t (Some c.get_mut.result.now) (Some (record c.get_mut.result.now { set = c.note.new.self })) there c.args.self.now c.self.view_is refl refl refl

pub returns-clause-ok : goal.returns-clause-ok
returns-clause-ok c =
    let lt : c.args.t < length c.self.inside.list.items = block_within c.self.inside.list.items _ c.args.self.now c.self.view_is c.args.t c.requires.block in
    let there0 : slice_get c.self.inside.list.items c.args.t ≡ Some c.index_mut.result.now = got_item c.self.inside.list.items c.args.t c.index_mut.result.now lt (search rules) in
    let here : c.index_mut.result.now ≡ Some c.get_mut.result.now = search rules in
    let there : slice_get c.self.inside.list.items c.args.t ≡ Some (Some c.get_mut.result.now) = there0 ∙ ap Some here in
    on_ok_weaker c.note.result
    (λ e. changed_content c.self.inside.list.items (vec_capacity c.self.inside.list) c.args.t (Some c.get_mut.result.now) (Some (record c.get_mut.result.now { set = c.note.new.self })) there c.args.self.now c.self.view_is (with_source (Some c.args.t) c.args.source) (e ∙ sym (source_here c.args.t c.args.source (content_of c.get_mut.result.now.set))) (λ u k off. source_off c.args.t u c.args.source k off))
    c.note.ensures.ok

pub returns-clause-err : goal.returns-clause-err
returns-clause-err c =
    let lt : c.args.t < length c.self.inside.list.items = block_within c.self.inside.list.items _ c.args.self.now c.self.view_is c.args.t c.requires.block in
    let there0 : slice_get c.self.inside.list.items c.args.t ≡ Some c.index_mut.result.now = got_item c.self.inside.list.items c.args.t c.index_mut.result.now lt (search rules) in
    let here : c.index_mut.result.now ≡ Some c.get_mut.result.now = search rules in
    let there : slice_get c.self.inside.list.items c.args.t ≡ Some (Some c.get_mut.result.now) = there0 ∙ ap Some here in
    on_err_weaker c.note.result (λ e. same_contents c.self.inside.list.items (vec_capacity c.self.inside.list) c.args.t (Some c.get_mut.result.now) (Some (record c.get_mut.result.now { set = c.note.new.self })) there c.args.self.now c.self.view_is e) c.note.ensures.err

pub returns-clause-kept : goal.returns-clause-kept
returns-clause-kept c =
    let lt : c.args.t < length c.self.inside.list.items = block_within c.self.inside.list.items _ c.args.self.now c.self.view_is c.args.t c.requires.block in
    let there0 : slice_get c.self.inside.list.items c.args.t ≡ Some c.index_mut.result.now = got_item c.self.inside.list.items c.args.t c.index_mut.result.now lt (search rules) in
    let here : c.index_mut.result.now ≡ Some c.get_mut.result.now = search rules in
    let there : slice_get c.self.inside.list.items c.args.t ≡ Some (Some c.get_mut.result.now) = there0 ∙ ap Some here in
    roomy_stays c.self.inside.list.items (vec_capacity c.self.inside.list) c.args.t (Some c.get_mut.result.now) (Some (record c.get_mut.result.now { set = c.note.new.self })) there c.args.self.now c.self.view_is (keeps_same c.note.result c.get_mut.result.now.set c.note.new.self _ c.note.ensures.ok c.note.ensures.err) c.note.ensures.room
