-- A step after which its task runs on, and the heaps after a step.
use Rattle.run_ledger.proofs.Common.{◌≡◌, ◌+◌, Bool, true, false, cond, Option, Some, None, slice_get, ◌⊎◌, refl, ap, ◌∙◌, false≢true, cond-true, Task, MachineState, is_running, step, can_step, runs_is, Ledger, allocated_in, moved_on, moved_to, settled, stepped_to, StepsRunOn}

running : (o : Option Task) → is_running o ≡ true → (x : Task) × (o ≡ Some x) × (is_running (Some x) ≡ true)
running None h = absurd (false≢true h)
running (Some x) h = (x, refl, h)

pub steps_run_on : StepsRunOn
steps_run_on p l t can going runs =
    let m : MachineState = step p l.machine t in
    let b : Ledger = allocated_in p l t in
    let c : Ledger = record b { machine = m; steps = b.steps + 1 } in
    let x = running (slice_get m.tasks t) runs in
    cond-true (can_step l.machine t) (stepped_to b t m) (record l { steps = l.steps + 1 }) can
    ∙ (ap (settled c t) going ∙ (ap (moved_to c t) x.1 ∙ ap (moved_on c t (x.0).parent) (runs_is (x.0).status x.2)))
