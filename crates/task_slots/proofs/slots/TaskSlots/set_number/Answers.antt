use Rattle.task_slots.proofs.Common.{rules, ◌<◌, ◌≡◌, Some, length, slice_get, slice_set, refl, ap, sym, ◌∙◌, vec_capacity, got_item, same_Some, cell_with_int, cell_of, put_object, LeafHeapValue, ParkedTask}
use Rattle.task_slots.proofs.Places.{rest_within, rest_put, rest_was}
use Rattle.task_slots.proofs.slots.TaskSlots.set_number.Goals as goal

pub returns : goal.returns
returns c r e =
    let lt : c.args.t < length c.self.inside.list.items = rest_within c.self.inside.list.items _ c.args.self.now c.self.view_is c.args.t r e in
    let there0 : slice_get c.self.inside.list.items c.args.t ≡ Some c.index_mut.result.now = got_item c.self.inside.list.items c.args.t c.index_mut.result.now lt (search rules) in
    let here : c.index_mut.result.now ≡ Some c.get_mut.result.now = search rules in
    let there : slice_get c.self.inside.list.items c.args.t ≡ Some (Some c.get_mut.result.now) = there0 ∙ ap Some here in
    let rest : c.get_mut.result.now.rest ≡ Some c.in-Some-rest.rest = search rules in
    let same : c.in-Some-rest.rest ≡ r = same_Some c.in-Some-rest.rest r (sym (rest_was c.self.inside.list.items (vec_capacity c.self.inside.list) c.args.t (Some c.get_mut.result.now) (Some c.get_mut.result.now) there c.args.self.now c.self.view_is ∙ rest) ∙ e) in
    let is : record c.in-Some-rest.rest { heap = c.own_set_int.new.self } ≡ (λ (x : ParkedTask). record x { heap = record x.heap { chunks = put_object x.heap.chunks c.args.object (cell_with_int (cell_of x.heap.chunks c.args.object) c.args.field c.args.value) } }) r = ap (λ (h : LeafHeapValue). record c.in-Some-rest.rest { heap = h }) (search rules) ∙ ap (λ (x : ParkedTask). record x { heap = record x.heap { chunks = put_object x.heap.chunks c.args.object (cell_with_int (cell_of x.heap.chunks c.args.object) c.args.field c.args.value) } }) same in
    rest_put c.self.inside.list.items (vec_capacity c.self.inside.list) c.args.t (Some c.get_mut.result.now) (Some (record c.get_mut.result.now { rest = Some (record c.in-Some-rest.rest { heap = c.own_set_int.new.self }) })) there c.args.self.now c.self.view_is refl refl refl
    ∙ ap (λ (x : ParkedTask). record c.args.self.now { rests = slice_set c.args.self.now.rests c.args.t (Some x) }) is
