-- A part whose next step isn't private, before the run's end: what that step does, and how an entry with it splits.
use Rattle.step_commit.proofs.Common.{◌≡◌, ℕ, zero, suc, ◌+◌, ◌≤◌, ◌||◌, arith, true, false, cond, min, nat_le, Option, Some, None, is_some, refl, ap, ap₂, sym, subst, ◌∙◌, le-leb, cond-false, cond-true, none_of, Line, ProgramText, MachineState, asked, fetched, EntryValue, private_limit, SettingsValue, Ledger, Refused, Collecting, Long, heap_of, lacks_room, is_due, is_in_need, is_private, most_steps, on_asked, standing, task_step, task_steps, kind_refusal, refused_if, refused_unless, ArePrivate, ahead, aside_is, Private, FitsNow as FitsMachine, Places, has_line, same_line, SharedValue, accounts, value_of, IsSharedValue, WorkerPartFits, part_of, above_of, ending, line_asks, next_line, first_cause, or_else, refused, asks_is, at_part, end_now, fits_now, refused_is, end_by, goes, IsShared, EndingTells, alone_entry, machine_after}
use Rattle.core_invariant.specs.below.run_trace.{Ran}
use Rattle.core_invariant.proofs.PartFitsMachine as link
use Rattle.step_commit.proofs.NextStepEnds.{asks_none, ending_tells}

-- private steps and one more, which isn't
standing_last : (p : ProgramText) (s : SettingsValue) (t k : ℕ) (l : Ledger) → ArePrivate p s l t k → is_due s p (task_steps p l t k) t ≡ false → is_in_need p (task_steps p l t k) t ≡ false → is_private p (task_steps p l t k).machine t ≡ false
    → standing s p l t (suc k) ≡ suc k
standing_last p s t zero l h due need shared =
    cond-false (is_due s p l t || is_in_need p l t) 0 (cond (is_private p l.machine t) (suc (standing s p (task_step p l t) t 0)) 1) (ap₂ (λ a b. a || b) due need)
    ∙ cond-false (is_private p l.machine t) (suc (standing s p (task_step p l t) t 0)) 1 shared
standing_last p s t (suc k) l h due need shared =
    cond-false (is_due s p l t || is_in_need p l t) 0 (cond (is_private p l.machine t) (suc (standing s p (task_step p l t) t (suc k))) 1) (ap₂ (λ a b. a || b) h.0 h.1)
    ∙ (cond-true (is_private p l.machine t) (suc (standing s p (task_step p l t) t (suc k))) 1 h.2 ∙ ap suc (standing_last p s t k (task_step p l t) h.3 due need shared))

-- BEFORE ITS NEXT STEP
module _ (w : SharedValue) (k : ℕ) (p : Private) (I : IsSharedValue w) (F : WorkerPartFits w k p) (on : (accounts w).end ≡ None) where
  pub fits_machine : FitsMachine w.program p (task_steps w.program (accounts w) p.task p.fresh).machine (above_of (value_of w) (accounts w) p.task)
  fits_machine = subst (λ (m : MachineState). FitsMachine w.program p m (above_of (value_of w) (accounts w) p.task)) (link.machine_is w k p I F on) (link.first_fits w k p I F on)

  -- the machine that the contracts speak of
  pub machine_same : machine_after w p ≡ (task_steps w.program (accounts w) p.task p.fresh).machine
  machine_same = ap (λ (z : Ledger). (ahead w.program (part_of w.settings p) z).machine) (aside_is (accounts w) (goes w k p I F on)) ∙ link.machine_is w k p I F on

module _ (w : SharedValue) (k : ℕ) (p : Private) (I : IsSharedValue w) (F : WorkerPartFits w k p) (shared : IsShared w p) (on : (accounts w).end ≡ None) where
  abbrev t : ℕ
  t = p.task

  abbrev l : Ledger
  l = accounts w

  abbrev M : Ledger
  M = task_steps w.program l t p.fresh

  abbrev above : Places
  above = above_of (value_of w) l t

  pub shared_now : is_private w.program M.machine t ≡ false
  shared_now = ap (λ (m : MachineState). is_private w.program m t) (sym (machine_same w k p I F on)) ∙ shared.last

  -- the line that comes next
  pub some_line : (line : Line) × (next_line w.program p ≡ Some line)
  some_line = has_line w.program p M.machine above (fits_machine w k p I F on) I.form

  line_is_fetched : (line : Line) → next_line w.program p ≡ Some line → fetched w.program (fits_machine w k p I F on).task.top ≡ Some line
  line_is_fetched line e = sym (same_line w.program p M.machine above (fits_machine w k p I F on)) ∙ e

  pub tells : (line : Line) → next_line w.program p ≡ Some line → EndingTells w p (ending p line.instr) line.number
  tells line e = ending_tells w.program p M.machine above (fits_machine w k p I F on) line (line_is_fetched line e) shared_now

  asks : asked w.program M.machine t ≡ None
  asks =
      asks_is w k p I F on
      ∙ (ap (line_asks p.field_limit p.frames.top) some_line.1 ∙ asks_none w.program p M.machine above (fits_machine w k p I F on) some_line.0 (line_is_fetched some_line.0 some_line.1) shared_now)

  pub not_due : is_due w.settings w.program M t ≡ false
  not_due = ap (λ o. on_asked o (λ n. nat_le w.settings.leaf (heap_of M t).since)) asks

  pub not_in_need : is_in_need w.program M t ≡ false
  not_in_need = ap (λ o. on_asked o (lacks_room (heap_of M t))) asks

  -- one step more than the fresh ones fits in the entry
  stands_so : standing w.settings w.program l t (suc p.fresh) ≡ suc p.fresh
  stands_so = standing_last w.program w.settings t p.fresh l (fits_now w k p F on).private not_due not_in_need shared_now

  pub last_kind : kind_refusal w.program w.settings l k (Ran t (suc p.fresh)) ≡ refused_if (is_some p.begun) Collecting None
  last_kind =
      let few : p.fresh ≤ private_limit = shared.few in
      let m : ℕ = min most_steps (standing w.settings w.program l t (suc p.fresh)) in
      let fits : nat_le (suc p.fresh) m ≡ true = le-leb (suc p.fresh) m (omega (arith, stands_so, few)) in
      at_part w k p F on (refused_unless (nat_le (suc p.fresh) m) (Long m) None) ∙ ap (λ b. refused_if (is_some p.begun) Collecting (refused_unless b (Long m) None)) fits

-- WHY IT IS REFUSED

-- n steps and one more
pub one_added : (n : ℕ) → suc n ≡ n + 1
one_added n = omega arith

pub entry_is : (k : ℕ) (p : Private) → alone_entry k p ≡ record { worker = k; kind = Ran p.task (suc p.fresh) }
entry_is k p = ap (λ n. let e : EntryValue = record { worker = k; kind = Ran p.task n } in e) (sym (one_added p.fresh))

else_same : (o rest other : Option Refused) → (o ≡ None → rest ≡ other) → or_else o rest ≡ or_else o other
else_same None rest other h = h refl
else_same (Some c) rest other h = refl

pub alone_answer : (w : SharedValue) (k : ℕ) (p : Private) → IsSharedValue w → WorkerPartFits w k p → IsShared w p → refused w (alone_entry k p) ≡ or_else (first_cause w.end w.steps w.settings k false) (refused_if (is_some p.begun) Collecting None)
alone_answer w k p I F shared =
    ap (refused w) (entry_is k p)
    ∙ (refused_is w I (record { worker = k; kind = Ran p.task (suc p.fresh) })
    ∙ else_same (first_cause w.end w.steps w.settings k false) (kind_refusal w.program w.settings (accounts w) k (Ran p.task (suc p.fresh))) (refused_if (is_some p.begun) Collecting None)
    (λ h. last_kind w k p I F shared (sym (end_now w I) ∙ none_of w.end (end_by (is_some w.end) _ _ _ _ _ h))))

-- after the causes that come first nothing refuses it
pub alone_free : (w : SharedValue) (k : ℕ) (p : Private) → IsSharedValue w → WorkerPartFits w k p → IsShared w p → p.begun ≡ None → first_cause w.end w.steps w.settings k false ≡ None → refused w (alone_entry k p) ≡ None
alone_free w k p I F shared idle first =
    alone_answer w k p I F shared ∙ (ap (λ o. or_else o (refused_if (is_some p.begun) Collecting None)) first ∙ ap (λ o. refused_if (is_some o) Collecting None) idle)
