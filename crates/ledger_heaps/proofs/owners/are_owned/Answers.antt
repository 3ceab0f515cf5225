use Rattle.ledger_heaps.proofs.Common.{◌∙◌, ◌<◌, refl, Option, List, ap, sym, length, get_or, arith, rules, false≢true, slice_get_read, Heap, held_in, or_fresh}
use Rattle.ledger_heaps.proofs.Owned.{owned_all, owns, not_owned, one_more_owned}
use Rattle.ledger_heaps.proofs.owners.are_owned.Goals as goal

pub loop-task-preserved : goal.loop-task-preserved
loop-task-preserved c =
    let heaps = c.args.heaps.now in
    let lt : c.loop-task.task < length heaps = search rules in
    let is = c.heap-item.is ∙ ap (λ (hs : List Heap). get_or hs c.loop-task.task c.heap-item.result) c.as_slice-heap-items.ensures in
    one_more_owned c.args.machine.now.tasks heaps c.loop-task.task c.heap-item.result (slice_get_read heaps (length heaps) c.loop-task.task c.heap-item.result refl lt is)
    (sym c.owns_heap.ensures ∙ c.if-not-owns_heap.false) c.loop-task.invariant

pub returns-then-not-owns_heap : goal.returns-then-not-owns_heap
returns-then-not-owns_heap c =
    let heaps = c.args.heaps.now in
    let tasks = c.args.machine.now.tasks in
    let lt : c.loop-task.task < length heaps = search rules in
    let is = c.heap-item.is ∙ ap (λ (hs : List Heap). get_or hs c.loop-task.task c.heap-item.result) c.as_slice-heap-items.ensures in
    let at = slice_get_read heaps (length heaps) c.loop-task.task c.heap-item.result refl lt is in
    let failed = ap (λ (o : Option Heap). owns tasks c.loop-task.task (held_in (or_fresh o))) at ∙ (sym c.owns_heap.ensures ∙ c.if-not-owns_heap.true) in
    ((λ h. absurd (false≢true h)), (λ all. absurd (not_owned tasks heaps c.loop-task.task failed all)))

pub returns : goal.returns
returns c =
    let heaps = c.args.heaps.now in
    ((λ h. owned_all c.args.machine.now.tasks heaps (λ u lt. c.loop-task.invariant u (let e = ap length c.as_slice-heap-items.ensures in let k = c.loop-task-test.false in omega arith))), (λ all. refl))
