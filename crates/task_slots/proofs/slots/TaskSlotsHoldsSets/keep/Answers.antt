use Rattle.task_slots.proofs.Common.{rules, ◌<◌, ◌≡◌, true, Some, length, slice_get, refl, ap, sym, ◌∙◌, vec_capacity, got_item, content_of, with_kept, keeps_of}
use Rattle.task_slots.proofs.Places.{made_within, set_was, changed_content, block_set_put, rests_put, sets_put}
use Rattle.task_slots.proofs.Contents.{kept_here, kept_off}
use Rattle.task_slots.proofs.slots.TaskSlotsHoldsSets.keep.Goals as goal

pub returns-clause-kept : goal.returns-clause-kept
returns-clause-kept c =
    let lt : c.args.heap < length c.self.inside.list.items = made_within c.self.inside.list.items _ c.args.self.now c.self.view_is c.args.heap c.requires.made in
    let there0 : slice_get c.self.inside.list.items c.args.heap ≡ Some c.index_mut.result.now = got_item c.self.inside.list.items c.args.heap c.index_mut.result.now lt (search rules) in
    let here : c.index_mut.result.now ≡ Some c.get_mut.result.now = search rules in
    let there : slice_get c.self.inside.list.items c.args.heap ≡ Some (Some c.get_mut.result.now) = there0 ∙ ap Some here in
    let keeps : c.get_mut.result.now.set.keeps ≡ true = sym (ap keeps_of (set_was c.self.inside.list.items (vec_capacity c.self.inside.list) c.args.heap (Some c.get_mut.result.now) (Some (record c.get_mut.result.now { set = c.push_kept.new.self })) there c.args.self.now c.self.view_is)) ∙ (sym c.keeps.ensures ∙ search rules) in
    changed_content c.self.inside.list.items (vec_capacity c.self.inside.list) c.args.heap (Some c.get_mut.result.now) (Some (record c.get_mut.result.now { set = c.push_kept.new.self })) there c.args.self.now c.self.view_is (with_kept (Some c.args.heap) (Some c.args.reference))
    (c.push_kept.ensures ∙ sym (kept_here c.args.heap c.args.reference (content_of c.get_mut.result.now.set) keeps))
    (λ u k off. kept_off c.args.heap u c.args.reference k off)

pub returns-clause-tasks : goal.returns-clause-tasks
returns-clause-tasks c =
    let lt : c.args.heap < length c.self.inside.list.items = made_within c.self.inside.list.items _ c.args.self.now c.self.view_is c.args.heap c.requires.made in
    let there0 : slice_get c.self.inside.list.items c.args.heap ≡ Some c.index_mut.result.now = got_item c.self.inside.list.items c.args.heap c.index_mut.result.now lt (search rules) in
    let here : c.index_mut.result.now ≡ Some c.get_mut.result.now = search rules in
    let there : slice_get c.self.inside.list.items c.args.heap ≡ Some (Some c.get_mut.result.now) = there0 ∙ ap Some here in
    ap length (rests_put c.self.inside.list.items (vec_capacity c.self.inside.list) c.args.heap (Some c.get_mut.result.now) (Some (record c.get_mut.result.now { set = c.push_kept.new.self })) there c.args.self.now c.self.view_is refl)

pub returns-clause-sets : goal.returns-clause-sets
returns-clause-sets c =
    let lt : c.args.heap < length c.self.inside.list.items = made_within c.self.inside.list.items _ c.args.self.now c.self.view_is c.args.heap c.requires.made in
    let there0 : slice_get c.self.inside.list.items c.args.heap ≡ Some c.index_mut.result.now = got_item c.self.inside.list.items c.args.heap c.index_mut.result.now lt (search rules) in
    let here : c.index_mut.result.now ≡ Some c.get_mut.result.now = search rules in
    let there : slice_get c.self.inside.list.items c.args.heap ≡ Some (Some c.get_mut.result.now) = there0 ∙ ap Some here in
    sets_put c.self.inside.list.items (vec_capacity c.self.inside.list) c.args.heap (Some c.get_mut.result.now) (Some (record c.get_mut.result.now { set = c.push_kept.new.self })) there c.args.self.now c.self.view_is

pub returns-clause-others : goal.returns-clause-others
returns-clause-others c =
    let lt : c.args.heap < length c.self.inside.list.items = made_within c.self.inside.list.items _ c.args.self.now c.self.view_is c.args.heap c.requires.made in
    let there0 : slice_get c.self.inside.list.items c.args.heap ≡ Some c.index_mut.result.now = got_item c.self.inside.list.items c.args.heap c.index_mut.result.now lt (search rules) in
    let here : c.index_mut.result.now ≡ Some c.get_mut.result.now = search rules in
    let there : slice_get c.self.inside.list.items c.args.heap ≡ Some (Some c.get_mut.result.now) = there0 ∙ ap Some here in
    block_set_put c.self.inside.list.items (vec_capacity c.self.inside.list) c.args.heap (Some c.get_mut.result.now) (Some (record c.get_mut.result.now { set = c.push_kept.new.self })) there c.args.self.now c.self.view_is refl refl
