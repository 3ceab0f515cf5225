use Rattle.task_slots.proofs.Common.{rules, ◌<◌, ◌≤◌, OnOk, IfSome, ◌≡◌, Some, length, map, slice_get, slice_set, refl, ap, sym, subst, ◌∙◌, vec_capacity, got_item, LeafHeapValue, IsSameRest, rest_at, rest_in}
use Rattle.task_slots.proofs.Places.{there_within, others_rest, rest_now, rest_only, rest_was}
use Rattle.task_slots.proofs.Contents.{both_ok}
use Rattle.task_slots.proofs.slots.TaskSlots.make_heap_room.Goals as goal

pub returns-clause-task_slots : goal.returns-clause-task_slots
returns-clause-task_slots c =
    let lt : c.args.t < length c.self.inside.list.items = there_within c.self.inside.list.items _ c.args.self.now c.self.view_is c.args.t c.requires.there in
    let there0 : slice_get c.self.inside.list.items c.args.t ≡ Some c.index_mut.result.now = got_item c.self.inside.list.items c.args.t c.index_mut.result.now lt (search rules) in
    let here : c.index_mut.result.now ≡ Some c.get_mut.result.now = search rules in
    let there : slice_get c.self.inside.list.items c.args.t ≡ Some (Some c.get_mut.result.now) = there0 ∙ ap Some here in
    rest_only c.self.inside.list.items (vec_capacity c.self.inside.list) c.args.t (Some c.get_mut.result.now) (Some (record c.get_mut.result.now { rest = Some (record c.in-Some-rest.rest { heap = c.make_room_before.new.self }) })) there c.args.self.now c.self.view_is refl refl refl

pub returns-clause-others : goal.returns-clause-others
returns-clause-others c =
    let lt : c.args.t < length c.self.inside.list.items = there_within c.self.inside.list.items _ c.args.self.now c.self.view_is c.args.t c.requires.there in
    let there0 : slice_get c.self.inside.list.items c.args.t ≡ Some c.index_mut.result.now = got_item c.self.inside.list.items c.args.t c.index_mut.result.now lt (search rules) in
    let here : c.index_mut.result.now ≡ Some c.get_mut.result.now = search rules in
    let there : slice_get c.self.inside.list.items c.args.t ≡ Some (Some c.get_mut.result.now) = there0 ∙ ap Some here in
    others_rest c.self.inside.list.items (vec_capacity c.self.inside.list) c.args.t (Some c.get_mut.result.now) (Some (record c.get_mut.result.now { rest = Some (record c.in-Some-rest.rest { heap = c.make_room_before.new.self }) })) there c.args.self.now c.self.view_is

pub returns-clause-same : goal.returns-clause-same
returns-clause-same c =
    let lt : c.args.t < length c.self.inside.list.items = there_within c.self.inside.list.items _ c.args.self.now c.self.view_is c.args.t c.requires.there in
    let there0 : slice_get c.self.inside.list.items c.args.t ≡ Some c.index_mut.result.now = got_item c.self.inside.list.items c.args.t c.index_mut.result.now lt (search rules) in
    let here : c.index_mut.result.now ≡ Some c.get_mut.result.now = search rules in
    let there : slice_get c.self.inside.list.items c.args.t ≡ Some (Some c.get_mut.result.now) = there0 ∙ ap Some here in
    let rest : c.get_mut.result.now.rest ≡ Some c.in-Some-rest.rest = search rules in
    let was = rest_was c.self.inside.list.items (vec_capacity c.self.inside.list) c.args.t (Some c.get_mut.result.now) (Some (record c.get_mut.result.now { rest = Some (record c.in-Some-rest.rest { heap = c.make_room_before.new.self }) })) there c.args.self.now c.self.view_is ∙ rest in
    let now = rest_now c.self.inside.list.items (vec_capacity c.self.inside.list) c.args.t (Some c.get_mut.result.now) (Some (record c.get_mut.result.now { rest = Some (record c.in-Some-rest.rest { heap = c.make_room_before.new.self }) })) there c.args.self.now c.self.view_is in
    subst (λ q. IsSameRest q (rest_at (map rest_in (slice_set c.self.inside.list.items c.args.t (Some (record c.get_mut.result.now { rest = Some (record c.in-Some-rest.rest { heap = c.make_room_before.new.self }) })))) c.args.t)) (sym was)
    (c.make_room_before.new.self.slots, c.make_room_before.new.self.spare, now ∙ ap (λ (h : LeafHeapValue). Some (record c.in-Some-rest.rest { heap = h })) c.make_room_before.ensures.kept)

pub returns-clause-room : goal.returns-clause-room
returns-clause-room c =
    let lt : c.args.t < length c.self.inside.list.items = there_within c.self.inside.list.items _ c.args.self.now c.self.view_is c.args.t c.requires.there in
    let there0 : slice_get c.self.inside.list.items c.args.t ≡ Some c.index_mut.result.now = got_item c.self.inside.list.items c.args.t c.index_mut.result.now lt (search rules) in
    let here : c.index_mut.result.now ≡ Some c.get_mut.result.now = search rules in
    let there : slice_get c.self.inside.list.items c.args.t ≡ Some (Some c.get_mut.result.now) = there0 ∙ ap Some here in
    subst (λ o. OnOk c.make_room_before.result (IfSome o (λ r. (c.args.chunks ≤ r.heap.slots) × (c.args.chunks ≤ r.heap.spare)))) (sym (rest_now c.self.inside.list.items (vec_capacity c.self.inside.list) c.args.t (Some c.get_mut.result.now) (Some (record c.get_mut.result.now { rest = Some (record c.in-Some-rest.rest { heap = c.make_room_before.new.self }) })) there c.args.self.now c.self.view_is))
    (both_ok c.make_room_before.result _ _ c.make_room_before.ensures.slots c.make_room_before.ensures.spare)
