-- Private steps keep each task's parent, and print nothing.
use Rattle.ledger_step_laws.proofs.Common.{◌≡◌, ℕ, zero, suc, Bool, true, false, Option, Some, None, slice_get, refl, ap, sym, ◌∙◌, false≢true, view_step, ProgramText, SettingsValue, Task, MachineState, can_step, step, parents, parent_of, step_idle, Ledger, is_private, is_private_by, task_step, task_steps, task_step_machine, ArePrivate}
use Rattle.ledger_step_laws.proofs.Private.{private_on}

-- a machine with the same parents and outputs
pub record IsKin (m m' : MachineState) : Type 0 where
  pub parents : (u : ℕ) → parents m'.tasks u ≡ parents m.tasks u
  pub outputs : m'.outputs ≡ m.outputs

itself : (m m' : MachineState) → m' ≡ m → IsKin m m'
itself m m' e = record { parents = λ u. ap (λ (k : MachineState). parents k.tasks u) e; outputs = ap (λ (k : MachineState). k.outputs) e }

step_kin : (p : ProgramText) (m : MachineState) (t : ℕ) → is_private p m t ≡ true → IsKin m (step p m t)
step_kin p m t h = step_kin_by_cases (can_step m t) refl (slice_get m.tasks t) refl
  where
    step_kin_by_cases : (b : Bool) → can_step m t ≡ b → (o : Option Task) → slice_get m.tasks t ≡ o → IsKin m (step p m t)
    step_kin_by_cases false c o e = itself m (step p m t) (step_idle p m t c)
    step_kin_by_cases true c None e = absurd (false≢true (sym (ap (is_private_by p m t) e) ∙ h))
    step_kin_by_cases true c (Some x) e =
        let g = private_on p m t x c e h in
        record { parents = λ u. ap (λ (k : MachineState). parents k.tasks u) g.is ∙ view_step parent_of m.tasks t x g.task e g.parent u; outputs = ap (λ (k : MachineState). k.outputs) g.is }

pub private_kin : (p : ProgramText) (l : Ledger) (t : ℕ) → is_private p l.machine t ≡ true → IsKin l.machine (task_step p l t).machine
private_kin p l t h =
    let k = step_kin p l.machine t h in
    let e = task_step_machine p l t in
    record { parents = λ u. ap (λ (m : MachineState). parents m.tasks u) e ∙ k.parents u; outputs = ap (λ (m : MachineState). m.outputs) e ∙ k.outputs }

pub steps_kin : (p : ProgramText) (s : SettingsValue) (t k : ℕ) (l : Ledger) → ArePrivate p s l t k → IsKin l.machine (task_steps p l t k).machine
steps_kin p s t zero l h = record { parents = λ u. refl; outputs = refl }
steps_kin p s t (suc k) l h =
    let a = private_kin p l t h.2 in
    let b = steps_kin p s t k (task_step p l t) h.3 in
    record { parents = λ u. b.parents u ∙ a.parents u; outputs = b.outputs ∙ a.outputs }
