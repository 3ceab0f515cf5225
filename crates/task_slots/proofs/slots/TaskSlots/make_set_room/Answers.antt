use Rattle.task_slots.proofs.Common.{rules, ◌<◌, ◌≤◌, OnOk, IfSome, ◌≡◌, Some, length, slice_get, refl, ap, sym, subst, ◌∙◌, vec_capacity, got_item}
use Rattle.task_slots.proofs.Places.{there_within, same_contents, set_now, set_only}
use Rattle.task_slots.proofs.Contents.{both_ok}
use Rattle.task_slots.proofs.slots.TaskSlots.make_set_room.Goals as goal

pub returns-clause-task_slots : goal.returns-clause-task_slots
returns-clause-task_slots c =
    let lt : c.args.t < length c.self.inside.list.items = there_within c.self.inside.list.items _ c.args.self.now c.self.view_is c.args.t c.requires.there in
    let there0 : slice_get c.self.inside.list.items c.args.t ≡ Some c.index_mut.result.now = got_item c.self.inside.list.items c.args.t c.index_mut.result.now lt (search rules) in
    let here : c.index_mut.result.now ≡ Some c.get_mut.result.now = search rules in
    let there : slice_get c.self.inside.list.items c.args.t ≡ Some (Some c.get_mut.result.now) = there0 ∙ ap Some here in
    set_only c.self.inside.list.items (vec_capacity c.self.inside.list) c.args.t (Some c.get_mut.result.now) (Some (record c.get_mut.result.now { set = c.make_room.new.self })) there c.args.self.now c.self.view_is refl refl refl

pub returns-clause-same : goal.returns-clause-same
returns-clause-same c =
    let lt : c.args.t < length c.self.inside.list.items = there_within c.self.inside.list.items _ c.args.self.now c.self.view_is c.args.t c.requires.there in
    let there0 : slice_get c.self.inside.list.items c.args.t ≡ Some c.index_mut.result.now = got_item c.self.inside.list.items c.args.t c.index_mut.result.now lt (search rules) in
    let here : c.index_mut.result.now ≡ Some c.get_mut.result.now = search rules in
    let there : slice_get c.self.inside.list.items c.args.t ≡ Some (Some c.get_mut.result.now) = there0 ∙ ap Some here in
    same_contents c.self.inside.list.items (vec_capacity c.self.inside.list) c.args.t (Some c.get_mut.result.now) (Some (record c.get_mut.result.now { set = c.make_room.new.self })) there c.args.self.now c.self.view_is c.make_room.ensures.same

pub returns-clause-room : goal.returns-clause-room
returns-clause-room c =
    let lt : c.args.t < length c.self.inside.list.items = there_within c.self.inside.list.items _ c.args.self.now c.self.view_is c.args.t c.requires.there in
    let there0 : slice_get c.self.inside.list.items c.args.t ≡ Some c.index_mut.result.now = got_item c.self.inside.list.items c.args.t c.index_mut.result.now lt (search rules) in
    let here : c.index_mut.result.now ≡ Some c.get_mut.result.now = search rules in
    let there : slice_get c.self.inside.list.items c.args.t ≡ Some (Some c.get_mut.result.now) = there0 ∙ ap Some here in
    subst (λ o. OnOk c.make_room.result (IfSome o (λ s. (c.args.sources ≤ s.remembered.slots) × (c.args.sources ≤ s.remembered.spare)))) (sym (set_now c.self.inside.list.items (vec_capacity c.self.inside.list) c.args.t (Some c.get_mut.result.now) (Some (record c.get_mut.result.now { set = c.make_room.new.self })) there c.args.self.now c.self.view_is))
    (both_ok c.make_room.result _ _ c.make_room.ensures.slots c.make_room.ensures.spare)
