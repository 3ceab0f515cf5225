-- A step that only calculates: it is the task's own, allocates nothing, and the task runs on.
use Rattle.std.proofs.Common.{◌≡◌, ℕ, ◌&&◌, not, Bool, true, false, Option, Some, None, slice_get, slice_set, refl, ap, sym, ◌∙◌}
use Rattle.std.proofs.lemmas.Bool.{false≢true, cond-true}
use Rattle.plain_vec.proofs.Members.{got_same}
use Rattle.hh_lang.specs.declared.instr.Instr.{Instr}
use Rattle.hh_lang.specs.declared.instr.Instr.TheVariants.{Set, Mov, Movr, Nil, Calc, Same, Jmp, Jz, Newm, Pack, Getr, Geti, Putr, Puti, Cntr, Cnti, Freeze, Cas, Call, Par, Ret, Out}
use Rattle.hh_lang.specs.declared.program.Line.{Line}
use Rattle.hh_lang.specs.Form.{ProgramText}
use Rattle.hh_model.specs.declared.data.Frame.{Frame}
use Rattle.hh_model.specs.declared.data.Task.{Task}
use Rattle.hh_model.specs.declared.data.MachineState.{MachineState}
use Rattle.hh_model.specs.Calculations.{calculates, calculates_by, calculates_line, is_calculation}
use Rattle.hh_model.specs.Names.{words_asked}
use Rattle.hh_model.specs.Step.{asked, asked_by, asked_line, can_step, fetched, follow, is_running, or_same, setting, step, stepped}
use Rattle.hh_model.proofs.Calculating.{makes_frame}
use Rattle.run_ledger.specs.Steps.{is_open, works_alone}
use Rattle.run_ledger.proofs.Steps.{goes_tells}
use Rattle.next_steps.specs.Own.{is_own, is_own_by, is_own_line}

-- ---- WHAT IT DOES

-- it allocates nothing, and is the task's own
abbrev Alone : MachineState → ℕ → Task → Instr → Type 0
Alone m t x i = (words_asked m.field_limit x.top i ≡ None) × ((not (is_open x i) && works_alone m t x.top i) ≡ true)

alone : (m : MachineState) (t : ℕ) (x : Task) (i : Instr) → is_calculation x.top i ≡ true → Alone m t x i
alone m t x (Set d k) e = (refl, refl)
alone m t x (Mov d a) e = (refl, refl)
alone m t x (Movr d a) e = (refl, refl)
alone m t x (Nil d) e = (refl, refl)
alone m t x (Calc op d a b) e = (refl, refl)
alone m t x (Same d a b) e = (refl, refl)
alone m t x (Jmp to) e = (refl, refl)
alone m t x (Jz a to) e = (refl, refl)
alone m t x (Newm d a b) e = absurd (false≢true e)
alone m t x (Pack d r i) e = absurd (false≢true e)
alone m t x (Getr d o k) e = absurd (false≢true e)
alone m t x (Geti d o k) e = absurd (false≢true e)
alone m t x (Putr o k v) e = absurd (false≢true e)
alone m t x (Puti o k v) e = absurd (false≢true e)
alone m t x (Cntr d o) e = absurd (false≢true e)
alone m t x (Cnti d o) e = absurd (false≢true e)
alone m t x (Freeze o) e = absurd (false≢true e)
alone m t x (Cas d o k w v) e = absurd (false≢true e)
alone m t x (Call g) e = absurd (false≢true e)
alone m t x (Par g h) e = absurd (false≢true e)
alone m t x Ret e = absurd (false≢true e)
alone m t x (Out a) e = absurd (false≢true e)

-- ---- WHERE IT STANDS

-- the task that can take a step, and the calculation that comes next in its frame
pub record Calculation (p : ProgramText) (m : MachineState) (t : ℕ) : Type 0 where
  pub can : can_step m t ≡ true
  pub task : Task
  pub there : slice_get m.tasks t ≡ Some task
  pub line : Line
  pub next : fetched p task.top ≡ Some line
  pub only : is_calculation task.top line.instr ≡ true

pub found : (p : ProgramText) (m : MachineState) (t : ℕ) → calculates p m t ≡ true → Calculation p m t
found p m t e = found_by_cases (can_step m t) refl (slice_get m.tasks t) refl e
  where
    found_at : (x : Task) → can_step m t ≡ true → slice_get m.tasks t ≡ Some x → (o : Option Line) → fetched p x.top ≡ o → calculates_line x.top o ≡ true → Calculation p m t
    found_at x c g None f e = absurd (false≢true e)
    found_at x c g (Some l) f e = record { can = c; task = x; there = g; line = l; next = f; only = e }

    found_by_cases : (b : Bool) → can_step m t ≡ b → (o : Option Task) → slice_get m.tasks t ≡ o → (b && calculates_by p o) ≡ true → Calculation p m t
    found_by_cases false c o g e = absurd (false≢true e)
    found_by_cases true c None g e = absurd (false≢true e)
    found_by_cases true c (Some x) g e = found_at x c g (fetched p x.top) refl e

-- ---- ITS RESULT

module _ (p : ProgramText) (m : MachineState) (t : ℕ) (C : Calculation p m t) where
  runs_now : is_running (Some C.task) ≡ true
  runs_now = ap is_running (sym C.there) ∙ (goes_tells m.end (is_running (slice_get m.tasks t)) C.can).1

  step_is : (g : Frame) × (step p m t ≡ record m { tasks = slice_set m.tasks t (record C.task { top = g }) })
  step_is =
      let E = makes_frame C.task.top C.line.instr C.only in (
        E.0,
        cond-true (can_step m t) _ _ C.can ∙ (ap (λ o. or_same m o (λ x. stepped p m t x (fetched p x.top))) C.there
            ∙ (ap (stepped p m t C.task) C.next ∙ ap (follow m t C.task C.line.number) (E.1 (setting m t C.task) m.store))),
      )

  -- the machine hasn't ended with it
  pub ends_not : (step p m t).end ≡ None
  ends_not = ap (λ (s : MachineState). s.end) step_is.1 ∙ (goes_tells m.end (is_running (slice_get m.tasks t)) C.can).0

  -- the task runs on
  pub runs_on : is_running (slice_get (step p m t).tasks t) ≡ true
  runs_on = ap (λ (s : MachineState). is_running (slice_get s.tasks t)) step_is.1 ∙ (ap is_running (got_same m.tasks t C.task (record C.task { top = step_is.0 }) C.there) ∙ runs_now)

  -- it allocates nothing
  pub asks_nothing : asked p m t ≡ None
  asks_nothing =
      ap (asked_by p m) C.there ∙ (cond-true (is_running (Some C.task)) _ _ runs_now ∙ (ap (asked_line m.field_limit C.task.top) C.next ∙ (alone m t C.task C.line.instr C.only).0))

  -- it is the task's own
  pub is_own_matter : is_own p m t ≡ true
  is_own_matter = ap (is_own_by p m t) C.there ∙ (ap (is_own_line m t C.task) C.next ∙ (alone m t C.task C.line.instr C.only).1)
