-- If the machine goes on after steps, the run's end is unchanged.
use Rattle.refinement_laws.proofs.Common.{◌≡◌, ℕ, zero, suc, ◌+◌, Bool, true, false, cond, None, slice_get, refl, ap, sym, ◌∙◌, ProgramText, SettingsValue, MachineState, step, can_step, asked, Ledger, allocated_in, settled, stepped_to, task_step, task_steps, task_step_machine, allocated_end, moved_to_end, ArePrivate, RunsPrivateSteps, private_end}

step_keeps_end : (p : ProgramText) (l : Ledger) (t : ℕ) → (task_step p l t).machine.end ≡ None → (task_step p l t).end ≡ l.end
step_keeps_end p l t on = step_keeps_end_by_cases (can_step l.machine t)
  where
    going : (step p l.machine t).end ≡ None
    going = ap (λ (m : MachineState). m.end) (sym (task_step_machine p l t)) ∙ on

    step_keeps_end_by_cases : (v : Bool) → (cond v (stepped_to (allocated_in p l t) t (step p l.machine t)) (record l { steps = l.steps + 1 })).end ≡ l.end
    step_keeps_end_by_cases true = ap (λ o. (settled (record (allocated_in p l t) { machine = step p l.machine t; steps = (allocated_in p l t).steps + 1 }) t o).end) going ∙ (moved_to_end _ t (slice_get (step p l.machine t).tasks t) ∙ allocated_end l t (asked p l.machine t))
    step_keeps_end_by_cases false = refl

steps_keep_end : (p : ProgramText) (s : SettingsValue) (t k : ℕ) (l : Ledger) → ArePrivate p s l t k → l.machine.end ≡ None → (task_steps p l t k).end ≡ l.end
steps_keep_end p s t zero l h on = refl
steps_keep_end p s t (suc k) l h on = steps_keep_end p s t k (task_step p l t) h.3 (private_end p l t h.2 ∙ on) ∙ step_keeps_end p l t (private_end p l t h.2 ∙ on)

pub ran_end : (p : ProgramText) (s : SettingsValue) (l l' : Ledger) (t w k : ℕ) → RunsPrivateSteps p s l l' t w k → l.machine.end ≡ None → l'.machine.end ≡ None → l'.end ≡ l.end
ran_end p s l l' t w k E on on' =
    let after = E.splits.after in
    ap (λ (z : Ledger). z.end) after
    ∙ (step_keeps_end p (task_steps p l t k) t (ap (λ (z : Ledger). z.machine.end) (sym after) ∙ on') ∙ steps_keep_end p s t k l E.splits.private on)
