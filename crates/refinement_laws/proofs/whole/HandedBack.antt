-- The accounts after the root is returned when the run is done, for each kind of last step.
use Rattle.refinement_laws.proofs.Common.{◌≡◌, ℕ, Some, None, refl, ap, ◌∙◌, ProgramText, SettingsValue, Done, Trapped, Entangled, Ledger, Machine, task_steps, rested, LastStepEndsRun, Halts, RunsPrivateSteps, by_end, handed, can_going}
use Rattle.refinement.specs.below.hh_model.{End}
use Rattle.refinement_laws.proofs.whole.Together.{done_is_handed}

-- a machine in which a task can step hasn't ended
pub alive_machine : (p : ProgramText) (s : SettingsValue) (l l' : Ledger) (t w k : ℕ) → RunsPrivateSteps p s l l' t w k → l.machine.end ≡ None
alive_machine p s l l' t w k E = can_going l.machine t E.can

pub handed_on : (l : Ledger) → l.end ≡ None → handed l ≡ l
handed_on l e = ap (by_end l) e

pub handed_halt : (m l : Ledger) → Halts m l → handed l ≡ l
handed_halt m l H = ap (by_end l) H.is ∙ handed_halt_by_cases H.end H.other
  where
    handed_halt_by_cases : (e : End) → (e ≡ Done → ⊥) → by_end l (Some (Machine e)) ≡ l
    handed_halt_by_cases Done other = absurd (other refl)
    handed_halt_by_cases (Trapped kind t line) other = refl
    handed_halt_by_cases (Entangled t owner) other = refl

pub handed_done : (l l' : Ledger) (t w k : ℕ) (p : ProgramText) (s : SettingsValue) (E : RunsPrivateSteps p s l l' t w k) → LastStepEndsRun (task_steps p l t k) l' t E.splits.task → handed l' ≡ rested l' t
handed_done l l' t w k p s E D = done_is_handed (task_steps p l t k) l' t E.splits.task D (E.root t E.splits.task E.splits.at.task D.root)
