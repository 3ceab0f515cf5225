use Rattle.shared_image.proofs.Common.{◌≡◌, Option, Some, None, List, [], IfSome, ap, ◌∙◌, sym, subst, false, option_map, option_copied, true, if◌then◌else◌, Slot, PoolValue, owner_of, TaskNode, state_of, ParkedTask, chunk_of, chunks_of, SharedValue, rest_at, value_of, is_state_running, objects_of, objects_numbered, objects_owned, none_numbered, resting_objects, some_numbered}
use Rattle.shared_image.proofs.objects_seen.resting_chunk.Goals as goal

-- the objects of the number are those of its chunk in the heap that was found
objects_are : (c : goal.After-chunk) → objects_of c.args.shared.now c.args.number ≡ objects_numbered c.args.number (chunks_of c.in-Some.rest.now.heap.chunks)
objects_are c =
    let w : SharedValue = c.args.shared.now in
    let t = c.in_ok-owner.field-0.owner in
    let held : owner_of w.pool c.args.number ≡ Some t = ap (λ (p : PoolValue). owner_of p c.args.number) (sym c.pool.ensures) ∙ ap (option_map (λ (h : Slot). h.owner)) (sym c.slot.ensures ∙ c.in_ok-owner.was) in
    let idle : is_state_running (state_of w.tree t) ≡ false = ap (λ (ns : List TaskNode). is_state_running (state_of ns t)) (sym c.tree.ensures) ∙ (sym (ap is_state_running c.state.ensures) ∙ (sym c.is_running.ensures ∙ c.if-is_running.false)) in
    let there : rest_at w.rests t ≡ Some c.in-Some.rest.now = ap (λ (hs : List (Option ParkedTask)). rest_at hs t) (sym c.heaps.ensures.task_slots) ∙ (sym c.rest.ensures ∙ ap option_copied c.in-Some.is) in
    resting_objects w c.args.number t c.in-Some.rest.now held idle there

pub returns-in-Some-clause-none : goal.returns-in-Some-clause-none
returns-in-Some-clause-none c = λ none. objects_are c ∙ none_numbered c.in-Some.rest.now.heap.chunks c.args.number c.chunk.result c.chunk.ensures none

pub returns-in-Some-clause-some : goal.returns-in-Some-clause-some
returns-in-Some-clause-some c =
    subst (λ os. IfSome c.chunk.result (λ k. (chunk_of k.now).objects ≡ os)) (sym (objects_are c)) (some_numbered c.in-Some.rest.now.heap.chunks c.args.number c.chunk.result c.chunk.ensures)

pub returns-then-is_running-clause-none : goal.returns-then-is_running-clause-none
returns-then-is_running-clause-none c = λ none.
    let w : SharedValue = c.args.shared.now in
    let t = c.in_ok-owner.field-0.owner in
    let held : owner_of w.pool c.args.number ≡ Some t = ap (λ (p : PoolValue). owner_of p c.args.number) (sym c.pool.ensures) ∙ ap (option_map (λ (h : Slot). h.owner)) (sym c.slot.ensures ∙ c.in_ok-owner.was) in
    let runs : is_state_running (state_of w.tree t) ≡ true = ap (λ (ns : List TaskNode). is_state_running (state_of ns t)) (sym c.tree.ensures) ∙ (sym (ap is_state_running c.state.ensures) ∙ (sym c.is_running.ensures ∙ c.if-is_running.true)) in
    ap (objects_owned w c.args.number) held ∙ ap (λ b. if b then [] else objects_numbered c.args.number ((value_of w).belongings t).chunks) runs

pub returns-in_err-owner-clause-none : goal.returns-in_err-owner-clause-none
returns-in_err-owner-clause-none c = λ none.
    let w : SharedValue = c.args.shared.now in
    let held : owner_of w.pool c.args.number ≡ None = ap (λ (p : PoolValue). owner_of p c.args.number) (sym c.pool.ensures) ∙ ap (option_map (λ (h : Slot). h.owner)) (sym c.slot.ensures ∙ c.in_err-owner.was) in
    ap (objects_owned w c.args.number) held
