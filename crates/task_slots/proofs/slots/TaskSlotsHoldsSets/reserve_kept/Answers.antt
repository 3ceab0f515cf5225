use Rattle.task_slots.proofs.Common.{rules, ◌<◌, IfSome, ◌≡◌, true, Some, length, slice_get, refl, ap, sym, subst, ◌∙◌, on_ok_weaker, vec_capacity, got_item}
use Rattle.task_slots.proofs.Places.{made_within, same_contents, set_now, block_set_put, rests_put, sets_put}
use Rattle.task_slots.proofs.slots.TaskSlotsHoldsSets.reserve_kept.Goals as goal

pub returns-clause-same : goal.returns-clause-same
returns-clause-same c =
    let lt : c.args.heap < length c.self.inside.list.items = made_within c.self.inside.list.items _ c.args.self.now c.self.view_is c.args.heap c.requires in
    let there0 : slice_get c.self.inside.list.items c.args.heap ≡ Some c.index_mut.result.now = got_item c.self.inside.list.items c.args.heap c.index_mut.result.now lt (search rules) in
    let here : c.index_mut.result.now ≡ Some c.get_mut.result.now = search rules in
    let there : slice_get c.self.inside.list.items c.args.heap ≡ Some (Some c.get_mut.result.now) = there0 ∙ ap Some here in
    same_contents c.self.inside.list.items (vec_capacity c.self.inside.list) c.args.heap (Some c.get_mut.result.now) (Some (record c.get_mut.result.now { set = c.reserve_kept.new.self })) there c.args.self.now c.self.view_is c.reserve_kept.ensures.same

pub returns-clause-place : goal.returns-clause-place
returns-clause-place c =
    let lt : c.args.heap < length c.self.inside.list.items = made_within c.self.inside.list.items _ c.args.self.now c.self.view_is c.args.heap c.requires in
    let there0 : slice_get c.self.inside.list.items c.args.heap ≡ Some c.index_mut.result.now = got_item c.self.inside.list.items c.args.heap c.index_mut.result.now lt (search rules) in
    let here : c.index_mut.result.now ≡ Some c.get_mut.result.now = search rules in
    let there : slice_get c.self.inside.list.items c.args.heap ≡ Some (Some c.get_mut.result.now) = there0 ∙ ap Some here in
    on_ok_weaker c.reserve_kept.result
    (λ lt'. subst (λ q. IfSome q (λ s. s.keeps ≡ true → 0 < s.kept.room)) (sym (set_now c.self.inside.list.items (vec_capacity c.self.inside.list) c.args.heap (Some c.get_mut.result.now) (Some (record c.get_mut.result.now { set = c.reserve_kept.new.self })) there c.args.self.now c.self.view_is)) (λ k. lt'))
    c.reserve_kept.ensures.room

pub returns-clause-tasks : goal.returns-clause-tasks
returns-clause-tasks c =
    let lt : c.args.heap < length c.self.inside.list.items = made_within c.self.inside.list.items _ c.args.self.now c.self.view_is c.args.heap c.requires in
    let there0 : slice_get c.self.inside.list.items c.args.heap ≡ Some c.index_mut.result.now = got_item c.self.inside.list.items c.args.heap c.index_mut.result.now lt (search rules) in
    let here : c.index_mut.result.now ≡ Some c.get_mut.result.now = search rules in
    let there : slice_get c.self.inside.list.items c.args.heap ≡ Some (Some c.get_mut.result.now) = there0 ∙ ap Some here in
    ap length (rests_put c.self.inside.list.items (vec_capacity c.self.inside.list) c.args.heap (Some c.get_mut.result.now) (Some (record c.get_mut.result.now { set = c.reserve_kept.new.self })) there c.args.self.now c.self.view_is refl)

pub returns-clause-sets : goal.returns-clause-sets
returns-clause-sets c =
    let lt : c.args.heap < length c.self.inside.list.items = made_within c.self.inside.list.items _ c.args.self.now c.self.view_is c.args.heap c.requires in
    let there0 : slice_get c.self.inside.list.items c.args.heap ≡ Some c.index_mut.result.now = got_item c.self.inside.list.items c.args.heap c.index_mut.result.now lt (search rules) in
    let here : c.index_mut.result.now ≡ Some c.get_mut.result.now = search rules in
    let there : slice_get c.self.inside.list.items c.args.heap ≡ Some (Some c.get_mut.result.now) = there0 ∙ ap Some here in
    sets_put c.self.inside.list.items (vec_capacity c.self.inside.list) c.args.heap (Some c.get_mut.result.now) (Some (record c.get_mut.result.now { set = c.reserve_kept.new.self })) there c.args.self.now c.self.view_is

pub returns-clause-others : goal.returns-clause-others
returns-clause-others c =
    let lt : c.args.heap < length c.self.inside.list.items = made_within c.self.inside.list.items _ c.args.self.now c.self.view_is c.args.heap c.requires in
    let there0 : slice_get c.self.inside.list.items c.args.heap ≡ Some c.index_mut.result.now = got_item c.self.inside.list.items c.args.heap c.index_mut.result.now lt (search rules) in
    let here : c.index_mut.result.now ≡ Some c.get_mut.result.now = search rules in
    let there : slice_get c.self.inside.list.items c.args.heap ≡ Some (Some c.get_mut.result.now) = there0 ∙ ap Some here in
    block_set_put c.self.inside.list.items (vec_capacity c.self.inside.list) c.args.heap (Some c.get_mut.result.now) (Some (record c.get_mut.result.now { set = c.reserve_kept.new.self })) there c.args.self.now c.self.view_is refl refl
