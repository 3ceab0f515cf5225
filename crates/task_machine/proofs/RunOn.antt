-- A run in progress: the steps left of its budget.
use Rattle.task_machine.proofs.Common.{◌≡◌, ℕ, ◌+◌, ◌-◌, ◌<◌, ◌≤◌, ◌^◌, Option, Some, None, refl, ap, sym, subst, ◌∙◌, arith, inl, inr, cases_lt, Line, IsProgram, ProgramText, line_at, Private, Plan, FrameLeads, planned, taken, with_top, FitsSome, PlanIsReady, IsSafe, HasCopiedRegisters, IsCallPlan, IsStepPlan, KeepsRest, RunsSteps, StandsAtCall, planned_line, RunsPrivately}
use Rattle.task_machine.proofs.Agreement.{line_agrees, some_line, some_next, some_safe}
use Rattle.task_machine.proofs.Calculated.{calculated, rest_calculated}
use Rattle.task_machine.proofs.CallPlans.{call_stands}
use Rattle.task_machine.proofs.Ends.{AgreesAll, few_made, fresh_is, is_step, limit_is, rest_more, run_to, runs_more, runs_none, still_fits}

-- the steps used of the budget led from the old part to this one
pub record IsOnItsWay (p : ProgramText) (old : Private) (budget left : ℕ) (now : Private) : Type 0 where
  pub within : left ≤ budget
  pub fits : FitsSome p old
  pub runs : RunsSteps p old (budget - left) now
  pub rest : KeepsRest old now

pub at_first : (p : ProgramText) (part : Private) (budget : ℕ) → FitsSome p part → IsOnItsWay p part budget budget part
at_first p part budget S = record {
  within = omega arith;
  fits = S;
  runs = let none : 0 ≡ budget - budget = omega arith in subst (λ n. RunsSteps p part n part) none (runs_none p part);
  rest = refl;
}

module _ (p : ProgramText) (old : Private) (budget left : ℕ) (now : Private) (O : IsOnItsWay p old budget left now) where
  -- after n more calculations
  pub after_calculations : (done : ℕ) (new : Private) → done ≤ left → FrameLeads p now.frames.top done new.frames.top → new ≡ record (with_top now new.frames.top) { fresh = now.fresh + done } → IsOnItsWay p old budget (left - done) new
  after_calculations done new most L is =
      let within : left ≤ budget = O.within in
      let count : (budget - left) + done ≡ budget - (left - done) = omega (arith, within, most) in
      record {
        within = omega (arith, within);
        fits = O.fits;
        runs = subst (λ n. RunsSteps p old n new) count (calculated p old (budget - left) now O.fits O.runs done new L is);
        rest = rest_calculated old now new done O.rest is;
      }

  pub fits_there : FitsSome p now
  fits_there = still_fits p old (budget - left) now O.fits O.runs

  pub fresh_there : now.fresh ≡ old.fresh + (budget - left)
  fresh_there = fresh_is p old (budget - left) now O.fits O.runs

  pub few_there : now.allocations ≤ old.allocations + (budget - left)
  few_there = few_made p old (budget - left) now O.fits O.runs

  pub limit_there : now.field_limit ≡ old.field_limit
  limit_there = limit_is p old (budget - left) now O.fits O.runs

  pub to_here : RunsPrivately p old budget now
  to_here = run_to p old (budget - left) now O.fits O.runs budget (omega arith) O.rest

  pub safe_there : IsSafe now
  safe_there = some_safe p now fits_there

  pub next_there : IsProgram p → now.frames.top.next + 1 < 2 ^ 32
  next_there I = some_next p now fits_there I

  -- a line comes next
  pub never_none : IsProgram p → line_at p now.frames.top.function now.frames.top.next ≡ None → ⊥
  never_none I none = let h = some_line p now fits_there I in is_some h.0 (sym none ∙ h.1)
    where
      is_some : (l : Line) → None ≡ Some l → ⊥
      is_some l e = cc

  module _ (line : Line) (next : line_at p now.frames.top.function now.frames.top.next ≡ Some line) (wide : HasCopiedRegisters now line.instr) where
    pub agrees_there : AgreesAll p now (planned now line.instr)
    agrees_there m above F = line_agrees p now m above F line next wide

    pub stands_at_call : IsCallPlan (planned now line.instr) → StandsAtCall p now
    stands_at_call h = call_stands p now (subst IsCallPlan (ap (planned_line now) (sym next)) h)

    -- after one more step
    pub after_step : 0 < left → IsStepPlan (planned now line.instr) → PlanIsReady now (planned now line.instr) → (new : Private) → new ≡ taken now (planned now line.instr) → IsOnItsWay p old budget (left - 1) new
    after_step some step ready new is =
        let plan : Plan = planned now line.instr in
        let within : left ≤ budget = O.within in
        let count : (budget - left) + 1 ≡ budget - (left - 1) = omega (arith, within, some) in
        record {
          within = omega (arith, within);
          fits = O.fits;
          runs = subst (λ n. RunsSteps p old n new) count (runs_more p old (budget - left) now O.fits O.runs plan (is_step plan step) agrees_there ready new is);
          rest = rest_more old now new O.rest plan is;
        }

-- ---- whether steps are left, by the line that comes next

pub steps_are_left : {X : Type 0} (done left : ℕ) (o : Option X) (x : X) → done ≤ left → (done ≡ left → o ≡ None) → o ≡ Some x → done < left
steps_are_left done left o x most spent is = elim (cases_lt done left) [
  | inl lt ↦ lt
  | inr ge ↦ let e : done ≡ left = omega (arith, most, ge) in absurd (none_some (sym (spent e) ∙ is))
]
  where
    none_some : None ≡ Some x → ⊥
    none_some e = cc

pub none_if_not_some : {X : Type 0} (o : Option X) → ((x : X) → o ≡ Some x → ⊥) → o ≡ None
none_if_not_some None n = refl
none_if_not_some (Some x) n = absurd (n x refl)
