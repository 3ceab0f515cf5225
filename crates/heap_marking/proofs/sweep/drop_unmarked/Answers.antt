use Rattle.heap_marking.proofs.Common.{◌≡◌, ℕ, List, Option, Some, None, slice_set, ap, sym, subst, ◌∙◌, same_Some, set-set, LeafHeapValue, MarkingValue, TaskSlotsValue, ParkedTask, SweepsSlot}
use Rattle.core_invariant.specs.below.task_slots.{marks_at, rest_at}
use Rattle.heap_marking.proofs.sweep.drop_unmarked.Goals as goal

pub sweep_keeping-room-requires-clause-done : goal.sweep_keeping-room-requires-clause-done
sweep_keeping-room-requires-clause-done c =
    let is : rest_at c.args.heaps.now.task_slots.rests c.args.t ≡ Some c.take_rest-rest.result = ap (λ (w : TaskSlotsValue). rest_at w.rests c.args.t) (sym c.take_marking.ensures.task_slots) ∙ c.take_rest-rest.ensures.rest in
    let at : marks_at c.args.heaps.now.task_slots.marks c.args.t ≡ Some c.into_inner.result = sym c.take_marking.ensures.marking ∙ (c.in-Some.is ∙ ap Some (sym c.into_inner.ensures)) in
    (c.requires.can c.take_rest-rest.result c.into_inner.result is at).done

pub sweep_keeping-room-requires-clause-room : goal.sweep_keeping-room-requires-clause-room
sweep_keeping-room-requires-clause-room c =
    let is : rest_at c.args.heaps.now.task_slots.rests c.args.t ≡ Some c.take_rest-rest.result = ap (λ (w : TaskSlotsValue). rest_at w.rests c.args.t) (sym c.take_marking.ensures.task_slots) ∙ c.take_rest-rest.ensures.rest in
    let at : marks_at c.args.heaps.now.task_slots.marks c.args.t ≡ Some c.into_inner.result = sym c.take_marking.ensures.marking ∙ (c.in-Some.is ∙ ap Some (sym c.into_inner.ensures)) in
    (c.requires.can c.take_rest-rest.result c.into_inner.result is at).room

pub sweep_keeping-room-requires-clause-in_use : goal.sweep_keeping-room-requires-clause-in_use
sweep_keeping-room-requires-clause-in_use c =
    let is : rest_at c.args.heaps.now.task_slots.rests c.args.t ≡ Some c.take_rest-rest.result = ap (λ (w : TaskSlotsValue). rest_at w.rests c.args.t) (sym c.take_marking.ensures.task_slots) ∙ c.take_rest-rest.ensures.rest in
    let at : marks_at c.args.heaps.now.task_slots.marks c.args.t ≡ Some c.into_inner.result = sym c.take_marking.ensures.marking ∙ (c.in-Some.is ∙ ap Some (sym c.into_inner.ensures)) in
    (c.requires.can c.take_rest-rest.result c.into_inner.result is at).in_use

pub returns-clause-swept : goal.returns-clause-swept
returns-clause-swept c = λ r m there marked.
    let t : ℕ = c.args.t in
    let old : TaskSlotsValue = c.args.heaps.now.task_slots in
    let is : rest_at old.rests t ≡ Some c.take_rest-rest.result = ap (λ (w : TaskSlotsValue). rest_at w.rests t) (sym c.take_marking.ensures.task_slots) ∙ c.take_rest-rest.ensures.rest in
    let at : marks_at old.marks t ≡ Some c.into_inner.result = sym c.take_marking.ensures.marking ∙ (c.in-Some.is ∙ ap Some (sym c.into_inner.ensures)) in
    let same_r : c.take_rest-rest.result ≡ r = same_Some c.take_rest-rest.result r (sym is ∙ there) in
    let same_m : c.into_inner.result ≡ m = same_Some c.into_inner.result m (sym at ∙ marked) in
    let Swept : ParkedTask → MarkingValue → Type 0 = λ x y. SweepsSlot old.rests c.put_rest.new.self.rests c.args.heaps.now.pool c.sweep_keeping-room.new.pool t x y in
    let put : LeafHeapValue → List (Option ParkedTask) → List (Option ParkedTask) = λ h rests. slice_set rests t (Some (let z : ParkedTask = record c.take_rest-rest.result { heap = h } in z)) in
    subst (λ (x : ParkedTask). Swept x m) same_r (subst (λ (y : MarkingValue). Swept c.take_rest-rest.result y) same_m (record {
      slots = c.sweep_keeping-room.new.heap.slots;
      spare = c.sweep_keeping-room.new.heap.spare;
      rests = ap (λ (w : TaskSlotsValue). w.rests) c.put_rest.ensures
          ∙ (ap (λ (w : TaskSlotsValue). put c.sweep_keeping-room.new.heap w.rests) c.take_rest-rest.ensures.task_slots
          ∙ (ap (λ (w : TaskSlotsValue). put c.sweep_keeping-room.new.heap (slice_set w.rests t None)) c.take_marking.ensures.task_slots
          ∙ (set-set old.rests t None _
          ∙ ap (λ (h : LeafHeapValue). put h old.rests) c.sweep_keeping-room.ensures.heap)));
      given = c.sweep_keeping-room.ensures.pool;
    }))

pub returns-clause-task_slots : goal.returns-clause-task_slots
returns-clause-task_slots c =
    let t : ℕ = c.args.t in
    let old : TaskSlotsValue = c.args.heaps.now.task_slots in
    let with_rests : List (Option ParkedTask) → TaskSlotsValue → TaskSlotsValue = λ rests w. record w { rests = rests } in
    let new : List (Option ParkedTask) = slice_set c.take_rest-rest.new.self.rests t (Some (let z : ParkedTask = record c.take_rest-rest.result { heap = c.sweep_keeping-room.new.heap } in z)) in
    let whole : c.put_rest.new.self ≡ record old { rests = new; marks = slice_set old.marks t None } =
    c.put_rest.ensures ∙ (ap (with_rests new) c.take_rest-rest.ensures.task_slots ∙ ap (with_rests new) c.take_marking.ensures.task_slots) in
    whole ∙ ap (λ rests. let w : TaskSlotsValue = record old { rests = rests; marks = slice_set old.marks t None } in w) (sym (ap (λ (w : TaskSlotsValue). w.rests) whole))
