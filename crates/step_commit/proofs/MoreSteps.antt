-- A part after private steps, of which some may be fresh already: it fits again, and its next step is described in
-- terms of the machine.
use Rattle.step_commit.proofs.Common.{◌≡◌, ℕ, ◌+◌, ◌≤◌, None, refl, ap, sym, subst, ◌∙◌, ProgramText, MachineState, Private, Paused, KeepsAccounts, unended, steps, KeepsRest, Pauses, PausesBy, Ran, steps_more, SharedValue, accounts, value_of, IsSharedValue, WorkerPartFits, FitsFirst, above_of, beyond_machine, machine_after, RunsSteps}
use Rattle.step_commit.proofs.FitsAfterSteps.{parts_fit_again}

module _ (w : SharedValue) (text : ProgramText) (same : w.program ≡ text) (k : ℕ) (I : IsSharedValue w) (old new : Private) (fits : WorkerPartFits w k old) (on : (accounts w).end ≡ None) (F : FitsFirst w old) (idle : old.begun ≡ None) (n : ℕ) (runs : RunsSteps text old n new)
    (accounts_kept : KeepsAccounts text old n new) (rest : KeepsRest old new) (few : old.fresh + n ≤ 257) where
  R : RunsSteps w.program old n new
  R = subst (λ (p : ProgramText). RunsSteps p old n new) (sym same) runs

  pub ran : Ran w.program old (machine_after w old) (above_of (value_of w) (accounts w) old.task) n new
  ran = R (machine_after w old) _ F

  pub fits_on : WorkerPartFits w k new
  fits_on = parts_fit_again w k old new n I fits on idle R (subst (λ (p : ProgramText). KeepsAccounts p old n new) (sym same) accounts_kept) rest few

  pub few_more : new.allocations ≤ old.allocations + n
  few_more = ran.allocations

  abbrev m : MachineState
  m = unended (accounts w).machine

  behind : steps w.program (machine_after w old) old.task n ≡ machine_after w new
  behind =
      ap (λ (z : MachineState). steps w.program z old.task n) (beyond_machine w.program (accounts w) old)
      ∙ (steps_more w.program m old.task old.fresh n (old.fresh + n) refl
      ∙ (ap (λ (t : ℕ). steps w.program m t (old.fresh + n)) (sym ran.task) ∙ (ap (steps w.program m new.task) (sym ran.fresh) ∙ sym (beyond_machine w.program (accounts w) new))))

  pub next_on : (why : Paused) → PausesBy text old n new why → Pauses w.program new (machine_after w new) why
  next_on why by = subst (λ (z : MachineState). Pauses w.program new z why) behind (subst (λ (p : ProgramText). PausesBy p old n new why) (sym same) by (machine_after w old) _ F)
