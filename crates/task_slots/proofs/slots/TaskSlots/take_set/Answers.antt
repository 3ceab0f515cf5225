use Rattle.task_slots.proofs.Common.{rules, ◌<◌, ◌≡◌, false, Some, length, slice_get, slice_set, refl, ap, ◌∙◌, vec_capacity, got_item, SetOf, bare_noted}
use Rattle.task_slots.proofs.Places.{block_within, set_put}
use Rattle.task_slots.proofs.slots.TaskSlots.take_set.Goals as goal

pub returns-clause-task_slots : goal.returns-clause-task_slots
returns-clause-task_slots c =
    let lt : c.args.t < length c.self.inside.list.items = block_within c.self.inside.list.items _ c.args.self.now c.self.view_is c.args.t c.requires.block in
    let there0 : slice_get c.self.inside.list.items c.args.t ≡ Some c.index_mut.result.now = got_item c.self.inside.list.items c.args.t c.index_mut.result.now lt (search rules) in
    let here : c.index_mut.result.now ≡ Some c.get_mut.result.now = search rules in
    let there : slice_get c.self.inside.list.items c.args.t ≡ Some (Some c.get_mut.result.now) = there0 ∙ ap Some here in
    let none : c.replace.new.dest ≡ bare_noted false = search rules in
    set_put c.self.inside.list.items (vec_capacity c.self.inside.list) c.args.t (Some c.get_mut.result.now) (Some (record c.get_mut.result.now { set = c.replace.new.dest })) there c.args.self.now c.self.view_is refl refl refl
    ∙ ap (λ (s : SetOf). record c.args.self.now { sets = slice_set c.args.self.now.sets c.args.t s }) none
