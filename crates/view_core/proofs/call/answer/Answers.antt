use Rattle.view_core.proofs.Common.{ℕ, List, subst, Some, IfOk, with_input, without_input, without_memory, gives_ends, silent_without_input, silent_without_memory, ShowsView}
use Rattle.view_core.proofs.call.answer.Goals as goal

pub returns-in-Err-Fault : goal.returns-in-Err-Fault
returns-in-Err-Fault g c =
    let fault = c.in-Err-Fault.ensures.failed c.in-Err-Fault.field-0-is in
    without_input _ _ _ _ _ (λ input. silent_without_input (ShowsView (Some c.args.view.now) input) _) fault.0 fault.1

pub returns-in-Err-NoMemory : goal.returns-in-Err-NoMemory
returns-in-Err-NoMemory g c =
    without_memory _ _ _ _ _ (λ input. silent_without_memory (ShowsView (Some c.args.view.now) input) _) c.read_for.ensures.untouched

pub returns-in-Ok : goal.returns-in-Ok
returns-in-Ok g c =
    with_input _ _ _ _ _ c.give.result c.in-Ok.input.items c.in-Ok.ensures.read
    (gives_ends (ShowsView (Some c.args.view.now) c.in-Ok.input.items) c.show.result c.give.result _ _
    (subst (λ (input : List ℕ). IfOk c.show.result (ShowsView (Some c.args.view.now) input)) c.as_slice.ensures.value c.show.ensures) c.give.ensures.given)
    c.give.ensures.read c.give.ensures.fault
