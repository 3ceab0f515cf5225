-- What holds before the last step of an accepted entry of steps.
use Rattle.ledger_step_laws.proofs.Common.{◌≡◌, ℕ, false, Some, None, slice_get, inr, ap, ◌∙◌, ProgramText, SettingsValue, MachineState, is_waiting, running_tells, can_going, Ledger, let_go, task_steps, SoundLedger, heap_machine, StepsAlone, LedgerIsKnown, rested, Splits, RunsPrivateSteps}
use Rattle.ledger_step_laws.proofs.Ahead.{steps_alone_all}
use Rattle.ledger_step_laws.proofs.Along.{steps_end, steps_know}
use Rattle.ledger_step_laws.proofs.Rested.{rested_sound}

module _ (p : ProgramText) (s : SettingsValue) (l l' : Ledger) (t w k : ℕ) (E : RunsPrivateSteps p s l l' t w k) where
  abbrev m : Ledger
  m = task_steps p l t k

  abbrev S : Splits p s l l' t k
  S = E.splits

  -- the task doesn't wait as its steps begin
  pub idle_first : is_waiting (slice_get l.machine.tasks t) ≡ false
  idle_first = ap is_waiting E.at ∙ (running_tells E.task.status E.runs).1

  pub going : m.machine.end ≡ None
  going = steps_end p s t k l S.private ∙ can_going l.machine t E.can

  pub known : LedgerIsKnown m
  known = steps_know p s t k l E.task E.knows (inr E.collects) E.at E.runs E.can S.private

  pub alone : StepsAlone l m t
  alone = steps_alone_all p s t k l (E.knows.sound, E.collects) S.private

  -- with the task released
  pub rested_stays_sound : SoundLedger (rested m t)
  rested_stays_sound = rested_sound m t known.sound

  pub idle_rested : is_waiting (slice_get (rested m t).machine.tasks t) ≡ false
  idle_rested =
      ap (λ (z : MachineState). is_waiting (slice_get z.tasks t)) (heap_machine m t let_go) ∙ (ap is_waiting S.at.task ∙ ap (λ st. is_waiting (Some (record S.task { status = st }))) S.at.runs)
