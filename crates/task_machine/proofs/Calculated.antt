-- Calculations are private steps.
use Rattle.task_machine.proofs.Common.{◌≡◌, ℕ, zero, suc, ◌+◌, true, cond, Option, Some, None, IsSomeAnd, refl, ap, sym, subst, ◌∙◌, arith, false≢true, Instr, Pack, Line, ProgramText, line_at, CallFrame, Private, Plan, Calculate, is_calculation, FrameLeads, CalculatesInFrame, planned, planned_other, taken, with_top, FitsSome, PlanIsReady, HasCopiedRegisters, IsStepPlan, KeepsRest, RunsSteps}
use Rattle.task_machine.proofs.Agreement.{line_agrees}
use Rattle.task_machine.proofs.Ends.{is_step, runs_more}

-- one more calculation
pub leads_more : (p : ProgramText) (f h g : CallFrame) (k : ℕ) (line : Line) → FrameLeads p f k h → line_at p h.function h.next ≡ Some line → CalculatesInFrame line.instr h g → FrameLeads p f (k + 1) g
leads_more p f h g k line L e M =
    let one : suc k ≡ k + 1 = omega arith in
    subst (λ n. FrameLeads p f n g) one (h, L, subst (λ o. IsSomeAnd o (λ (l : Line). CalculatesInFrame l.instr h g)) (sym e) M)

-- the part with this top frame, after n more steps
abbrev with_top_after : Private → CallFrame → ℕ → Private
with_top_after part f n = record (with_top part f) { fresh = part.fresh + n }

-- a calculation is the plan
calculation_planned : (part : Private) (i : Instr) → is_calculation part.frames.top i ≡ true → planned part i ≡ Calculate i
calculation_planned part i e = ap (λ b. cond b (Calculate i) (planned_other part i)) e

calculation_wide : (part : Private) (i : Instr) → is_calculation part.frames.top i ≡ true → HasCopiedRegisters part i
calculation_wide part (Pack d r i) e = absurd (false≢true e)
calculation_wide part i e = tt

module _ (p : ProgramText) (old : Private) (k : ℕ) (mid : Private) (S : FitsSome p old) (R : RunsSteps p old k mid) where
  one_runs : (n : ℕ) (h g : CallFrame) (o : Option Line) → line_at p h.function h.next ≡ o → IsSomeAnd o (λ line. CalculatesInFrame line.instr h g)
      → RunsSteps p old (k + n) (with_top_after mid h n) → RunsSteps p old (k + suc n) (with_top_after mid g (suc n))
  one_runs n h g None e M before = absurd M
  one_runs n h g (Some line) e M before =
      let here : Private = with_top_after mid h n in
      let plan : Plan = planned here line.instr in
      let calculates : plan ≡ Calculate line.instr = calculation_planned here line.instr M.0 in
      let fresh : mid.fresh + suc n ≡ (mid.fresh + n) + 1 = omega arith in
      let is : with_top_after mid g (suc n) ≡ taken here (Calculate line.instr) =
      ap (λ z. let w : Private = record (with_top mid g) { fresh = z } in w) fresh
      ∙ ap (λ (f : CallFrame). let w : Private = record (with_top mid f) { fresh = (mid.fresh + n) + 1 } in w) M.1 in
      let count : (k + n) + 1 ≡ k + suc n = omega arith in
      subst (λ z. RunsSteps p old z (with_top_after mid g (suc n))) count
      (runs_more p old (k + n) here S before plan (is_step plan (subst (λ q. IsStepPlan q) (sym calculates) tt)) (λ m above F. line_agrees p here m above F line e (calculation_wide here line.instr M.0))
      (subst (λ q. PlanIsReady here q) (sym calculates) tt) (with_top_after mid g (suc n)) (is ∙ ap (taken here) (sym calculates)))

  all_run : (n : ℕ) (g : CallFrame) → FrameLeads p mid.frames.top n g → RunsSteps p old (k + n) (with_top_after mid g n)
  all_run zero g L =
      let fresh : mid.fresh ≡ mid.fresh + 0 = omega arith in
      let count : k ≡ k + 0 = omega arith in
      let top : mid ≡ with_top_after mid g 0 = ap (with_top mid) L ∙ ap (λ z. let w : Private = record (with_top mid g) { fresh = z } in w) fresh in
      subst (λ z. RunsSteps p old (k + 0) z) top (subst (λ z. RunsSteps p old z mid) count R)
  all_run (suc n) g (h, L, T) = one_runs n h g (line_at p h.function h.next) refl T (all_run n h L)

  -- n of them are n more steps
  pub calculated : (n : ℕ) (new : Private) → FrameLeads p mid.frames.top n new.frames.top → new ≡ record (with_top mid new.frames.top) { fresh = mid.fresh + n } → RunsSteps p old (k + n) new
  calculated n new L is = subst (λ z. RunsSteps p old (k + n) z) (sym is) (all_run n new.frames.top L)

-- they change only the top frame and the count of fresh steps
pub rest_calculated : (old mid new : Private) (n : ℕ) → KeepsRest old mid → new ≡ record (with_top mid new.frames.top) { fresh = mid.fresh + n } → KeepsRest old new
rest_calculated old mid new n K is =
    let P : Private → Type 0 = λ z. KeepsRest old z in
    let w : Private = with_top_after mid new.frames.top n in
    subst P (sym is) (ap (λ (z : Private). let r : Private = record z { frames = w.frames; heap = w.heap; allocations = w.allocations; fresh = w.fresh } in r) K)
