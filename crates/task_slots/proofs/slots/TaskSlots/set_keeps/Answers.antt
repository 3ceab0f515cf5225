use Rattle.task_slots.proofs.Common.{rules, ◌<◌, option_map, ◌≡◌, Some, length, slice_get, refl, ap, sym, ◌∙◌, vec_capacity, got_item, content_of, keeping}
use Rattle.task_slots.proofs.Places.{block_within, others_sets, set_now, set_only, set_was}
use Rattle.task_slots.proofs.Contents.{kept_content}
use Rattle.task_slots.proofs.slots.TaskSlots.set_keeps.Goals as goal

pub returns-clause-task_slots : goal.returns-clause-task_slots
returns-clause-task_slots c =
    let lt : c.args.t < length c.self.inside.list.items = block_within c.self.inside.list.items _ c.args.self.now c.self.view_is c.args.t c.requires.block in
    let there0 : slice_get c.self.inside.list.items c.args.t ≡ Some c.index_mut.result.now = got_item c.self.inside.list.items c.args.t c.index_mut.result.now lt (search rules) in
    let here : c.index_mut.result.now ≡ Some c.get_mut.result.now = search rules in
    let there : slice_get c.self.inside.list.items c.args.t ≡ Some (Some c.get_mut.result.now) = there0 ∙ ap Some here in
    set_only c.self.inside.list.items (vec_capacity c.self.inside.list) c.args.t (Some c.get_mut.result.now) (Some (record c.get_mut.result.now { set = c.set_keeps.new.self })) there c.args.self.now c.self.view_is refl refl refl

pub returns-clause-at : goal.returns-clause-at
returns-clause-at c =
    let lt : c.args.t < length c.self.inside.list.items = block_within c.self.inside.list.items _ c.args.self.now c.self.view_is c.args.t c.requires.block in
    let there0 : slice_get c.self.inside.list.items c.args.t ≡ Some c.index_mut.result.now = got_item c.self.inside.list.items c.args.t c.index_mut.result.now lt (search rules) in
    let here : c.index_mut.result.now ≡ Some c.get_mut.result.now = search rules in
    let there : slice_get c.self.inside.list.items c.args.t ≡ Some (Some c.get_mut.result.now) = there0 ∙ ap Some here in
    ap (option_map content_of) (set_now c.self.inside.list.items (vec_capacity c.self.inside.list) c.args.t (Some c.get_mut.result.now) (Some (record c.get_mut.result.now { set = c.set_keeps.new.self })) there c.args.self.now c.self.view_is)
    ∙ (ap Some (kept_content c.get_mut.result.now.set c.set_keeps.new.self c.args.keeps c.set_keeps.ensures.remembered c.set_keeps.ensures.kept c.set_keeps.ensures.keeps)
    ∙ sym (ap (λ o. option_map (keeping c.args.keeps) (option_map content_of o)) (set_was c.self.inside.list.items (vec_capacity c.self.inside.list) c.args.t (Some c.get_mut.result.now) (Some (record c.get_mut.result.now { set = c.set_keeps.new.self })) there c.args.self.now c.self.view_is)))

pub returns-clause-others : goal.returns-clause-others
returns-clause-others c =
    let lt : c.args.t < length c.self.inside.list.items = block_within c.self.inside.list.items _ c.args.self.now c.self.view_is c.args.t c.requires.block in
    let there0 : slice_get c.self.inside.list.items c.args.t ≡ Some c.index_mut.result.now = got_item c.self.inside.list.items c.args.t c.index_mut.result.now lt (search rules) in
    let here : c.index_mut.result.now ≡ Some c.get_mut.result.now = search rules in
    let there : slice_get c.self.inside.list.items c.args.t ≡ Some (Some c.get_mut.result.now) = there0 ∙ ap Some here in
    others_sets c.self.inside.list.items (vec_capacity c.self.inside.list) c.args.t (Some c.get_mut.result.now) (Some (record c.get_mut.result.now { set = c.set_keeps.new.self })) there c.args.self.now c.self.view_is
