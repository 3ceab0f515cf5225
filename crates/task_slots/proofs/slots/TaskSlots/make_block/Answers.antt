use Rattle.task_slots.proofs.Common.{rules, ◌<◌, ◌≡◌, false, Some, None, length, slice_get, ap, sym, ◌∙◌, vec_capacity, got_item, bare_noted, TaskSlot, marking_in, rest_in, set_in}
use Rattle.task_slots.proofs.Places.{bare_was, made_within, block_now, block_only}
use Rattle.task_slots.proofs.slots.TaskSlots.make_block.Goals as goal

pub returns-clause-task_slots : goal.returns-clause-task_slots
returns-clause-task_slots c =
    let lt : c.args.t < length c.self.inside.list.items = made_within c.self.inside.list.items _ c.args.self.now c.self.view_is c.args.t c.requires.made in
    let there0 : slice_get c.self.inside.list.items c.args.t ≡ Some c.index_mut.result.now = got_item c.self.inside.list.items c.args.t c.index_mut.result.now lt (search rules) in
    let bare_then : slice_get c.args.self.now.blocks c.args.t ≡ Some false = search rules in
    let none = bare_was c.self.inside.list.items (vec_capacity c.self.inside.list) c.args.t c.index_mut.result.now (Some c.in_ok-block.block) there0 c.args.self.now c.self.view_is bare_then in
    let is : c.in_ok-block.block ≡ record { rest = None; set = bare_noted false; marking = None } = search rules in
    block_only c.self.inside.list.items (vec_capacity c.self.inside.list) c.args.t c.index_mut.result.now (Some c.in_ok-block.block) there0 c.args.self.now c.self.view_is
    (ap (λ (h : TaskSlot). h.rest) is ∙ sym (ap rest_in none)) (ap (λ (h : TaskSlot). h.set) is ∙ sym (ap set_in none)) (ap (λ (h : TaskSlot). h.marking) is ∙ sym (ap marking_in none))

pub returns-clause-block : goal.returns-clause-block
returns-clause-block c =
    let lt : c.args.t < length c.self.inside.list.items = made_within c.self.inside.list.items _ c.args.self.now c.self.view_is c.args.t c.requires.made in
    let there0 : slice_get c.self.inside.list.items c.args.t ≡ Some c.index_mut.result.now = got_item c.self.inside.list.items c.args.t c.index_mut.result.now lt (search rules) in
    block_now c.self.inside.list.items (vec_capacity c.self.inside.list) c.args.t c.index_mut.result.now (Some c.in_ok-block.block) there0 c.args.self.now c.self.view_is
