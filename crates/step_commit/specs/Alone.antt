-- An entry of a part's fresh steps and its next one, which isn't private.
use Rattle.std.specs.Prelude.{◌≤◌, ◌≡◌, ◌≢◌, ℕ, ◌+◌, ◌||◌, not, true, false, Option, Some, None, [], slice_get}
use Rattle.core_invariant.specs.below.hh_lang.{Out, Ret, Line, ProgramText}
use Rattle.core_invariant.specs.below.hh_model.{End, Done, Trapped, MachineState, Task, int_in, ended_by, fetched, step}
use Rattle.core_invariant.specs.below.run_trace.{Ran, EntryValue, private_limit}
use Rattle.core_invariant.specs.below.run_ledger.{Ledger, RunEnd, Machine, is_private, owns, task_steps, touched}
use Rattle.core_invariant.specs.below.ledger_step_laws.{Rests}
use Rattle.core_invariant.specs.below.refinement.{handed}
use Rattle.core_invariant.specs.below.task_machine.{Private}
use Rattle.core_invariant.specs.below.task_frames.{int_of, ref_of}
use Rattle.core_invariant.specs.declared.next_step.Ending.{Ending}
use Rattle.core_invariant.specs.declared.next_step.Ending.TheVariants.{Prints, Returns, Traps, Beyond}
use Rattle.core_invariant.specs.below.task_slots.{ParkedTask, Result}
use Rattle.core_invariant.specs.SharedValue.{SharedValue, accounts}
use Rattle.core_invariant.specs.WorkerPartFits.{WorkerPartFits, OthersFit, beyond}
use Rattle.core_invariant.specs.Next.{is_beyond, is_joint}
use Rattle.core_invariant.specs.Entered.{Enters}

-- its entry
abbrev pub alone_entry : ℕ → Private → EntryValue
alone_entry worker p = record { worker = worker; kind = Ran p.task (p.fresh + 1) }

-- the machine after the part's fresh steps
abbrev pub machine_after : SharedValue → Private → MachineState
machine_after w p = (beyond w.program (accounts w) p).machine

-- the accounts at that point
abbrev pub then_accounts : SharedValue → Private → Ledger
then_accounts w p = task_steps w.program (accounts w) p.task p.fresh

-- the part's next step isn't private, and fits in one entry with its fresh ones
pub record IsShared (w : SharedValue) (p : Private) : Type 0 where
  pub last : is_private w.program (machine_after w p) p.task ≡ false
  pub few : p.fresh ≤ private_limit

-- the steps are committed, and the part goes on
pub record GoesAlone (w after : SharedValue) (k : ℕ) (p q : Private) : Type 0 where
  pub enters : Enters w after (alone_entry k p)
  pub goes : (accounts after).end ≡ None
  pub fits : WorkerPartFits after k q
  -- only its frames change, and no step is fresh
  pub part : q ≡ record p { frames = q.frames; fresh = 0 }
  pub others : OthersFit w after k

-- a step ended the run by a trap, or is a read that is stopped
abbrev pub HasHalted : Option RunEnd → Type 0
HasHalted end = (e : End) × (end ≡ Some (Machine e)) × (e ≢ Done)

-- the steps are committed, and the last of them ended the run and left all else unchanged: the part is as before it
pub record HaltsAlone (w after : SharedValue) (k : ℕ) (p q : Private) : Type 0 where
  pub enters : Enters w after (alone_entry k p)
  pub halts : HasHalted (accounts after).end
  pub fits : WorkerPartFits after k q
  -- no step is fresh
  pub part : q ≡ record p { fresh = 0 }
  pub others : OthersFit w after k

-- the steps are committed, the last of them is the root's last return, and the run is done
pub record FinishesAlone (w after : SharedValue) (k : ℕ) (p : Private) : Type 0 where
  pub enters : Enters w after (alone_entry k p)
  pub done : (accounts after).end ≡ Some (Machine Done)
  -- every heap is returned
  pub rest : (t : ℕ) → Rests (handed (accounts after)) t
  pub others : OthersFit w after k

-- nothing is committed, since the next step involves other tasks
pub record IsBeyond (w after : SharedValue) (p q : Private) : Type 0 where
  pub same : after ≡ w
  pub part : q ≡ p
  pub beyond : is_beyond w.program (machine_after w p) p.task ≡ true

-- the parked state of a task whose last frame returned
abbrev pub ended_rest : Private → ParkedTask
ended_rest p = record { work = Result (int_of p.frames.top 0) (ref_of p.frames.top 0); heap = p.heap; view = p.view; allocations = p.allocations }

-- ---- what the next step does in the machine m: x is the task, and line the line that it executes
abbrev pub SaysOf : ProgramText → MachineState → ℕ → Task → Line → Ending → Type 0
SaysOf p m t x line (Prints v) = (a : ℕ) × (line.instr ≡ Out a) × (v ≡ int_in x.top a)
SaysOf p m t x line Returns = (line.instr ≡ Ret) × (x.below ≡ [])
SaysOf p m t x line (Traps kind) = step p m t ≡ ended_by m (Trapped kind t line.number)
SaysOf p m t x line Beyond = (is_joint x line.instr || not (owns m.tasks t (touched x.top line.instr))) ≡ true

pub record TellsOf (p : ProgramText) (m : MachineState) (t : ℕ) (ending : Ending) (number : ℕ) : Type 0 where
  pub task : Task
  pub line : Line
  pub is : slice_get m.tasks t ≡ Some task
  pub next : fetched p task.top ≡ Some line
  pub number_is : line.number ≡ number
  pub says : SaysOf p m t task line ending

abbrev pub EndingTells : SharedValue → Private → Ending → ℕ → Type 0
EndingTells w p ending number = TellsOf w.program (then_accounts w p).machine p.task ending number
