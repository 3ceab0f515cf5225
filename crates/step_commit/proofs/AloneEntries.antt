-- Entries of a part's fresh steps and a last one, as the calls make them.
use Rattle.step_commit.proofs.Common.{◌≡◌, ℕ, ℤ, suc, ◌+◌, ◌<◌, ◌≤◌, ◌^◌, ◌||◌, ◌&&◌, arith, not, true, Option, Some, None, [], slice_get, is_none, is_some, length, refl, ap, ap₂, sym, subst, ◌∙◌, or_left, ReservedVecValue, Instr, Ret, Line, End, Done, Trapped, MachineState, Task, Trap, ended_by, fetched, step, EntryValue, private_limit, has_no_caller, owns, touched, ran_tells, with_next, Private, FitsSome, IsSafe, some_next, some_safe, Beyond, Prints, Returns, Traps, SharedValue, accounts, IsSharedValue, WorkerPartFits, is_beyond, is_beyond_by, is_beyond_line, is_joint, refused, steps_now, FinishesAlone, GoesAlone, HaltsAlone, IsShared, EndingTells, alone_entry, machine_after, then_accounts}
use Rattle.step_commit.proofs.LastStepEntry as last
use Rattle.step_commit.proofs.LastStepEntry.{AsksLast, last_entry}
use Rattle.step_commit.proofs.LastSteps.{entry_is, fits_machine, machine_same}
use Rattle.step_commit.proofs.OutputEntered as output
use Rattle.step_commit.proofs.RunDone as done
use Rattle.step_commit.proofs.RunHalted as halting
use Rattle.step_commit.proofs.TaskEnds.{has_slot, has_node}

-- a step that traps ends the run so
pub trap_is : (w : SharedValue) (p : Private) (kind : Trap) (number : ℕ) → EndingTells w p (Traps kind) number → step w.program (then_accounts w p).machine p.task ≡ ended_by (then_accounts w p).machine (Trapped kind p.task number)
trap_is w p kind number T = T.says ∙ ap (λ n. ended_by (then_accounts w p).machine (Trapped kind p.task n)) T.number_is

-- a call asks for an entry of the part's fresh steps and its next one, and nothing refuses it
pub record AsksAlone (w : SharedValue) (k : ℕ) (p : Private) : Type 0 where
  pub I : IsSharedValue w
  pub F : WorkerPartFits w k p
  pub shared : IsShared w p
  pub free : refused w (alone_entry k p) ≡ None

-- by what is known of an equal value
pub asks_alone : {w after : SharedValue} {k : ℕ} {p : Private} → w ≡ after → IsSharedValue w → WorkerPartFits after k p → IsShared after p → refused after (alone_entry k p) ≡ None → AsksAlone w k p
asks_alone {w} {after} {k} {p} same I F shared free = record { I = I; F = subst (λ z. WorkerPartFits z k p) (sym same) F; shared = subst (λ z. IsShared z p) (sym same) shared; free = subst (λ z. refused z (alone_entry k p) ≡ None) (sym same) free }

module _ {w : SharedValue} {k : ℕ} {p : Private} (asks : AsksAlone w k p) where
  open asks use {I, F, shared, free}

  pub last_free : refused w (last_entry k p) ≡ None
  last_free = ap (refused w) (sym (entry_is k p)) ∙ free

  abbrev pub asks_last : AsksLast w k p
  asks_last = record { I = I; F = F; shared = shared; free = last_free }

  pub runs_on : (accounts w).end ≡ None
  runs_on = last.on asks_last

  -- the counts are small
  pub alone_small : (w.steps < 1000000000) × (p.fresh ≤ private_limit)
  alone_small =
      let a = ran_tells w.program w.settings (accounts w) k p.task (suc p.fresh) (ap is_none last_free) in
      let b : w.steps ≡ (accounts w).steps = steps_now w I in
      let c = I.settings.fuel.1 in
      (omega (arith, a.2, b, c), shared.few)

  -- the part fits a machine
  pub fits_some : FitsSome w.program p
  fits_some = let G = fits_machine w k p I F runs_on in (_, _, G)

  pub next_small : p.frames.top.next + 1 < 2 ^ 32
  next_small = some_next w.program p fits_some I.form

  pub is_safe : IsSafe p
  is_safe = some_safe w.program p fits_some

  -- its task has a node, a slot and a set
  pub node_there : p.task < length w.tree
  node_there = has_node asks_last

  pub slot_there : p.task < length w.rests
  slot_there = has_slot asks_last

  pub set_there : p.task < length w.sets
  set_there = subst (λ n. p.task < n) (sym I.noted) node_there

  -- AN OUTPUT
  module _ (value : ℤ) (line : ℕ) (T : EndingTells w p (Prints value) line) (j : ReservedVecValue EntryValue) where
    pub printed_world : IsSharedValue (output.printed asks_last value line T j)
    printed_world = output.printed_world asks_last value line T j

    pub printed_goes : GoesAlone w (output.printed asks_last value line T j) k p (record p { frames = with_next p.frames (p.frames.top.next + 1); fresh = 0 })
    printed_goes = output.printed_goes asks_last value line T j

  -- THE RUN ENDS, and all else is unchanged
  module _ (x : End) (other : x ≡ Done → ⊥) (is : step w.program (then_accounts w p).machine p.task ≡ ended_by (then_accounts w p).machine x) (j : ReservedVecValue EntryValue) where
    pub halt_world : IsSharedValue (halting.halted asks_last x other is j)
    halt_world = halting.halt_world asks_last x other is j

    pub halts_alone : HaltsAlone w (halting.halted asks_last x other is j) k p (record p { fresh = 0 })
    halts_alone = halting.halts_alone asks_last x other is j

  -- THE ROOT'S END
  module _ (line : ℕ) (T : EndingTells w p Returns line) (root : p.task ≡ 0) (j : ReservedVecValue EntryValue) where
    pub finished_world : IsSharedValue (done.w' asks_last line T root j)
    finished_world = done.done_world asks_last line T root j

    pub finishes_alone : FinishesAlone w (done.w' asks_last line T root j) k p
    finishes_alone = done.finishes_alone asks_last line T root j

  -- STEPS THAT INVOLVE OTHER TASKS
  abbrev m : MachineState
  m = (last.M asks_last).machine

  beyond_line : (x : Task) (line : Line) → slice_get m.tasks p.task ≡ Some x → fetched w.program x.top ≡ Some line → (is_joint x line.instr || not (owns m.tasks p.task (touched x.top line.instr))) ≡ true → is_beyond w.program (machine_after w p) p.task ≡ true
  beyond_line x line is next h =
      ap (λ (z : MachineState). is_beyond w.program z p.task) (machine_same w k p I F runs_on)
      ∙ (ap (is_beyond_by w.program m p.task) is ∙ (ap (is_beyond_line m p.task x) next ∙ h))

  pub other_beyond : (line : ℕ) → EndingTells w p Beyond line → is_beyond w.program (machine_after w p) p.task ≡ true
  other_beyond line T = beyond_line T.task T.line T.is T.next T.says

  -- the last return of a task that isn't the root
  pub child_beyond : (line : ℕ) → EndingTells w p Returns line → (p.task ≡ 0 → ⊥) → is_beyond w.program (machine_after w p) p.task ≡ true
  child_beyond line T ne =
      beyond_line T.task T.line T.is T.next
      (or_left (is_joint T.task T.line.instr) (not (owns m.tasks p.task (touched T.task.top T.line.instr))) (joint T.task T.line.instr T.says.0 T.says.1 (parent T.task T.is)))
    where
      joint : (x : Task) (i : Instr) → i ≡ Ret → x.below ≡ [] → is_some x.parent ≡ true → is_joint x i ≡ true
      joint x i e lone par = ap (is_joint x) e ∙ ap₂ (λ fs b. has_no_caller fs && b) lone par

      parent : (x : Task) → slice_get m.tasks p.task ≡ Some x → is_some x.parent ≡ true
      parent x is = parent_by_cases x.parent refl
        where
          parent_by_cases : (o : Option ℕ) → x.parent ≡ o → is_some o ≡ true
          parent_by_cases (Some q) e = refl
          parent_by_cases None e = absurd (ne ((last.runs_so asks_last).root p.task x is e))
