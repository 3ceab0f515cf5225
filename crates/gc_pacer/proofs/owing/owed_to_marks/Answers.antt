use Rattle.gc_pacer.proofs.Common.{◌≡◌, ℕ, Bool, cond, Option, Some, None, List, ap, subst, sym, ◌∙◌, is_some, false≢true, Ledger, TaskNode, SetOf, MarkingValue, SharedValue, accounts, marking_cause, marking_cause_in, Fork, IsLastGoing, owed_marks, marked_free}
use Rattle.run_statistics.specs.below.run_ledger.{Sweep, More}
use Rattle.gc_pacer.proofs.owing.owed_to_marks.Goals as goal

pub returns-in_default : goal.returns-in_default
returns-in_default c = λ marks K.
    let l : Ledger = accounts c.args.shared.now in
    sym (owed_marks l c.args.pace.now.marks.items marks None K (subst (λ (fs : List Fork). IsLastGoing l fs None) c.as_slice.ensures c.in_default.ensures)).0

-- a marking that is under way has no cause against it
pub returns-then-is_some : goal.returns-then-is_some
returns-then-is_some c = λ marks K.
    let l : Ledger = accounts c.args.shared.now in
    let q = owed_marks l c.args.pace.now.marks.items marks (Some c.in-Some.fork) K (subst (λ (fs : List Fork). IsLastGoing l fs (Some c.in-Some.fork)) c.as_slice.ensures c.in-Some.ensures) in
    let free : marking_cause c.args.shared.now c.in-Some.fork.task ≡ None = marked_free c.args.shared.now c.stands.ensures c.requires c.in-Some.fork q.1.0 q.1.1 in
    let w : SharedValue = c.args.shared.now in
    let t : ℕ = c.in-Some.fork.task in
    let told : c.marking_cause.result ≡ marking_cause w t =
    c.marking_cause.ensures
    ∙ (ap (λ (ns : List TaskNode). marking_cause_in ns c.heaps.result.now.task_slots.sets c.heaps.result.now.task_slots.marks t) c.tree.ensures
    ∙ (ap (λ (xs : List SetOf). marking_cause_in w.tree xs c.heaps.result.now.task_slots.marks t) c.heaps.ensures.sets ∙ ap (λ (ms : List (Option MarkingValue)). marking_cause_in w.tree w.sets ms t) c.heaps.ensures.marks)) in
    absurd (false≢true (sym (c.if-is_some.ensures ∙ ap is_some (told ∙ free))))

pub returns-then-is_marked : goal.returns-then-is_marked
returns-then-is_marked c = λ marks K.
    let l : Ledger = accounts c.args.shared.now in
    let q = owed_marks l c.args.pace.now.marks.items marks (Some c.in-Some.fork) K (subst (λ (fs : List Fork). IsLastGoing l fs (Some c.in-Some.fork)) c.as_slice.ensures c.in-Some.ensures) in
    sym (q.0 ∙ ap (λ (b : Bool). cond b (Sweep c.in-Some.fork.task) (More c.in-Some.fork.task)) (sym c.is_marked.ensures ∙ c.if-is_marked.true))

pub returns-else-is_marked : goal.returns-else-is_marked
returns-else-is_marked c = λ marks K.
    let l : Ledger = accounts c.args.shared.now in
    let q = owed_marks l c.args.pace.now.marks.items marks (Some c.in-Some.fork) K (subst (λ (fs : List Fork). IsLastGoing l fs (Some c.in-Some.fork)) c.as_slice.ensures c.in-Some.ensures) in
    sym (q.0 ∙ ap (λ (b : Bool). cond b (Sweep c.in-Some.fork.task) (More c.in-Some.fork.task)) (sym c.is_marked.ensures ∙ c.if-is_marked.false))
