use Rattle.task_slots.proofs.Common.{rules, ◌<◌, ◌≡◌, Some, None, length, slice_get, slice_set, ap, sym, ◌∙◌, vec_capacity, got_item, TaskSlot, has_block, marking_in, rest_in, set_in}
use Rattle.task_slots.proofs.Places.{made_within, slot_put, rest_was, set_was}
use Rattle.task_slots.proofs.slots.TaskSlots.leave.Goals as goal

pub returns-in-Some-clause-task_slots : goal.returns-in-Some-clause-task_slots
returns-in-Some-clause-task_slots c =
    let lt : c.args.t < length c.self.inside.list.items = made_within c.self.inside.list.items _ c.args.self.now c.self.view_is c.args.t c.requires.made in
    let there0 : slice_get c.self.inside.list.items c.args.t ≡ Some c.index_mut.result.now = got_item c.self.inside.list.items c.args.t c.index_mut.result.now lt (search rules) in
    let none : c.replace.new.dest ≡ None = search rules in
    slot_put c.self.inside.list.items (vec_capacity c.self.inside.list) c.args.t c.index_mut.result.now c.replace.new.dest there0 c.args.self.now c.self.view_is
    ∙ ap (λ o. record c.args.self.now { rests = slice_set c.args.self.now.rests c.args.t (rest_in o); sets = slice_set c.args.self.now.sets c.args.t (set_in o); marks = slice_set c.args.self.now.marks c.args.t (marking_in o); blocks = slice_set c.args.self.now.blocks c.args.t (has_block o) }) none

pub returns-in-None-clause-task_slots : goal.returns-in-None-clause-task_slots
returns-in-None-clause-task_slots c =
    let lt : c.args.t < length c.self.inside.list.items = made_within c.self.inside.list.items _ c.args.self.now c.self.view_is c.args.t c.requires.made in
    let there0 : slice_get c.self.inside.list.items c.args.t ≡ Some c.index_mut.result.now = got_item c.self.inside.list.items c.args.t c.index_mut.result.now lt (search rules) in
    let none : c.replace.new.dest ≡ None = search rules in
    slot_put c.self.inside.list.items (vec_capacity c.self.inside.list) c.args.t c.index_mut.result.now c.replace.new.dest there0 c.args.self.now c.self.view_is
    ∙ ap (λ o. record c.args.self.now { rests = slice_set c.args.self.now.rests c.args.t (rest_in o); sets = slice_set c.args.self.now.sets c.args.t (set_in o); marks = slice_set c.args.self.now.marks c.args.t (marking_in o); blocks = slice_set c.args.self.now.blocks c.args.t (has_block o) }) none

pub returns-in-None-clause-rest : goal.returns-in-None-clause-rest
returns-in-None-clause-rest c =
    let lt : c.args.t < length c.self.inside.list.items = made_within c.self.inside.list.items _ c.args.self.now c.self.view_is c.args.t c.requires.made in
    let there0 : slice_get c.self.inside.list.items c.args.t ≡ Some c.index_mut.result.now = got_item c.self.inside.list.items c.args.t c.index_mut.result.now lt (search rules) in
    let none : c.index_mut.result.now ≡ None = search rules in
    ap (λ (h : TaskSlot). h.rest) c.nothing.ensures ∙ sym (rest_was c.self.inside.list.items (vec_capacity c.self.inside.list) c.args.t c.index_mut.result.now c.replace.new.dest there0 c.args.self.now c.self.view_is ∙ ap rest_in none)

pub returns-in-None-clause-set : goal.returns-in-None-clause-set
returns-in-None-clause-set c =
    let lt : c.args.t < length c.self.inside.list.items = made_within c.self.inside.list.items _ c.args.self.now c.self.view_is c.args.t c.requires.made in
    let there0 : slice_get c.self.inside.list.items c.args.t ≡ Some c.index_mut.result.now = got_item c.self.inside.list.items c.args.t c.index_mut.result.now lt (search rules) in
    let none : c.index_mut.result.now ≡ None = search rules in
    set_was c.self.inside.list.items (vec_capacity c.self.inside.list) c.args.t c.index_mut.result.now c.replace.new.dest there0 c.args.self.now c.self.view_is ∙ (ap (λ o. Some (set_in o)) none ∙ ap (λ (h : TaskSlot). Some h.set) (sym c.nothing.ensures))
