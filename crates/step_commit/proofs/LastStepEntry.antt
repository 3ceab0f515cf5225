-- An entry of a part's fresh steps and its next one: what is known of the accounts before and after it.
use Rattle.step_commit.proofs.Common.{◌≡◌, ℕ, suc, ◌+◌, true, false, Option, Some, None, slice_get, is_none, min, inl, inr, refl, ap, ap₂, sym, subst, ◌∙◌, option_flatten, cases_eq, same_Some, none_of, Line, Task, effect, can_step, fetched, follow, goes_on, is_running, is_waiting, parent_of, parents, runs, setting, step, step_taken, EntryValue, Ledger, heap_of, is_private, most_steps, standing, task_steps, after, long_at, entry_tells, task_step_machine, FramesValue, LedgerIsKnown, RunsPrivateSteps, Splits, steps_know, entry_runs, BelongingsAfter, Belongings, Memory, WorkerFits, Private, SharedValue, accounts, value_of, IsMeasured, IsSharedValue, WorkerPartFits, belongings_of_part, part_of, Enters, refused, part_idle, none_begun, entry_on, still_goes, goes, MakesSteps, ran_to, steps_others, steps_part, steps_world, After, GoesAlone, IsShared, SaysOf, EndingTells, alone_entry}
use Rattle.core_invariant.specs.below.run_trace.{Ran}
use Rattle.core_invariant.specs.declared.next_step.Ending.{Ending}
use Rattle.core_invariant.proofs.PartFitsMachine as link
use Rattle.step_commit.proofs.LastSteps.{entry_is, one_added, shared_now}

abbrev pub last_entry : ℕ → Private → EntryValue
last_entry k p = record { worker = k; kind = Ran p.task (suc p.fresh) }

-- as calls make it: n steps and one more
pub last_enters : (w w' : SharedValue) (k : ℕ) (p : Private) → Enters w w' (alone_entry k p) → Enters w w' (last_entry k p)
last_enters w w' k p N = subst (Enters w w') (entry_is k p) N

pub last_steps : (w : SharedValue) (p : Private) → w.steps + (p.fresh + 1) ≡ w.steps + suc p.fresh
last_steps w p = ap (λ n. w.steps + n) (sym (one_added p.fresh))

-- they are committed, and the part goes on with other frames
pub goes_alone : {w w' : SharedValue} {k : ℕ} {p : Private} (I : IsSharedValue w) (F : WorkerPartFits w k p) (free : refused w (last_entry k p) ≡ None) (M : MakesSteps w w' k p p.fresh) (frames : FramesValue) → w'.tasks_out ≡ w.tasks_out → w'.end ≡ w.end → w'.pool ≡ w.pool
    → BelongingsAfter w.program (value_of w) (value_of w') (task_steps w.program (accounts w) p.task p.fresh) (ran_to w k p (suc p.fresh)) p.task (belongings_of_part p) M.runs.splits.task M.runs.splits.line M.runs.splits.kind M.runs.splits.last M.makes (belongings_of_part (record p { frames = frames; fresh = 0 }))
    → GoesAlone w w' k p (record p { frames = frames; fresh = 0 })
goes_alone {w} {w'} {k} {p} I F free M frames out end pool read = record {
  enters = subst (Enters w w') (sym (entry_is k p)) M.enters;
  goes = still_goes I free M.enters (steps_world I F free M) (entry_on w (last_entry k p) free) end;
  fits = steps_part I F free M frames (ap (λ ts. option_flatten (slice_get ts k)) out) (subst (λ z. IsMeasured z p) (sym pool) F.measured) read;
  part = refl;
  others = steps_others I F free M;
}

-- a call asks for an entry of the part's fresh steps and its next one, which isn't private, and nothing refuses it
pub record AsksLast (w : SharedValue) (k : ℕ) (p : Private) : Type 0 where
  pub I : IsSharedValue w
  pub F : WorkerPartFits w k p
  pub shared : IsShared w p
  pub free : refused w (last_entry k p) ≡ None

-- the names used in proofs: the task, the accounts before the entry, before its last step, and after it, the memory and
-- the part's belongings before it, and how it splits
pub record LastNames (w : SharedValue) (p : Private) : Type 0 where
  pub t : ℕ
  pub l : Ledger
  pub M : Ledger
  pub L : Ledger
  pub v : Memory
  pub h : Belongings
  pub S : Splits w.program w.settings l L t p.fresh

module _ {w : SharedValue} {k : ℕ} {p : Private} (asks : AsksLast w k p) where
  open asks use {I, F, shared, free}

  abbrev pub t : ℕ
  t = p.task

  abbrev pub l : Ledger
  l = accounts w

  abbrev pub M : Ledger
  M = task_steps w.program l t p.fresh

  -- the accounts after it
  abbrev pub L : Ledger
  L = after w.program w.settings l (last_entry k p)

  pub on : l.end ≡ None
  on = none_of l.end (entry_tells w.program w.settings l (last_entry k p) (ap is_none free)).0

  pub runs_so : RunsPrivateSteps w.program w.settings l L t k p.fresh
  runs_so = entry_runs w.program w.settings w.journal.items k t p.fresh I.form I.legal free

  abbrev pub S : Splits w.program w.settings l L t p.fresh
  S = runs_so.splits

  pub own : WorkerFits w.program w.settings (part_of w.settings p) (value_of w) l
  own = F.fits

  pub before_goes : l.machine.end ≡ None
  before_goes = goes w k p I F on

  pub A : After l M t F.fits.task
  A = link.A w k p I F on

  pub knows_mid : LedgerIsKnown M
  knows_mid = steps_know w.program w.settings t p.fresh l runs_so.task runs_so.knows (inr runs_so.collects) runs_so.at runs_so.runs runs_so.can S.private

  pub mid_goes : M.machine.end ≡ None
  mid_goes = A.goes ∙ before_goes

  pub mid_can : can_step M.machine t ≡ true
  mid_can = ap₂ (λ e o. goes_on e (is_running o)) mid_goes S.at.task ∙ ap runs S.at.runs

  pub idle : is_waiting (slice_get l.machine.tasks t) ≡ false
  idle = part_idle w k p F on

  -- what is known of the next step in the machine
  pub said : (ending : Ending) (number : ℕ) → EndingTells w p ending number → (S.line.number ≡ number) × SaysOf w.program M.machine t S.task S.line ending
  said ending number T =
      let task : T.task ≡ S.task = same_Some T.task S.task (sym T.is ∙ S.at.task) in
      let line : T.line ≡ S.line = same_Some T.line S.line (sym T.next ∙ (ap (λ (x : Task). fetched_of x) task ∙ S.at.next)) in (
        ap (λ (z : Line). z.number) (sym line) ∙ T.number_is,
        subst (λ (x : Task). SaysOf w.program M.machine t x S.line ending) task (subst (λ (z : Line). SaysOf w.program M.machine t T.task z ending) line T.says),
      )
    where
      fetched_of : Task → Option Line
      fetched_of x = fetched w.program x.top

  -- the machine after it
  pub machine_then : L.machine ≡ step w.program M.machine t
  machine_then = ap (λ (z : Ledger). z.machine) S.after ∙ task_step_machine w.program M t

  pub taken : step w.program M.machine t ≡ follow M.machine t S.task S.line.number (effect (setting M.machine t S.task) S.task.top M.machine.store S.line.instr)
  taken = step_taken w.program M.machine t S.task S.line mid_can S.at.task S.at.next

  pub is_not_private : is_private w.program M.machine t ≡ false
  is_not_private = shared_now w k p I F shared on

  pub held_mid : (heap_of M t).worker ≡ Some k
  held_mid = link.worker_then w k p I F on

  abbrev pub names : LastNames w p
  names = record { t = t; l = l; M = M; L = L; v = value_of w; h = belongings_of_part p; S = S }

  -- the tree is that of the machine then
  pub then_parents : (u : ℕ) → parents M.machine.tasks u ≡ parents l.machine.tasks u
  then_parents u = elim (cases_eq u t) [
    | inl q ↦ ap (parents M.machine.tasks) q ∙ (ap parent_of A.is ∙ (A.parent ∙ (ap parent_of (sym F.fits.is) ∙ ap (parents l.machine.tasks) (sym q))))
    | inr ne ↦ ap parent_of (A.others u ne)
  ]

  -- heaps of others, and whose belongings are in the value
  pub heap_off : (u : ℕ) → (u ≡ t → ⊥) → slice_get M.heaps u ≡ slice_get l.heaps u
  heap_off u ne = A.heaps u ne

  -- the part is in no leaf collection
  pub none : p.begun ≡ None
  none = none_begun w k p F on (long_at (suc p.fresh) (min most_steps (standing w.settings w.program l t (suc p.fresh)))) (entry_tells w.program w.settings l (last_entry k p) (ap is_none free)).2
