-- After the run is done every heap is returned: the root ran alone, and is released.
use Rattle.refinement_laws.proofs.Common.{◌≡◌, ℕ, Bool, true, false, Option, Some, None, slice_get, refl, inl, inr, ap, sym, subst, ◌∙◌, cases_eq, same_Some, none_some, ProgramText, SettingsValue, Done, MachineState, Task, is_running, runs, Ledger, or_fresh, let_go, task_steps, Rests, rested, LastStepEndsRun, LastKind, Private, Reading, Writing, Printing, Forking, Ending, Joining, Finishing, Halting, IsOfKind, GoesOn, RunsPrivateSteps, with_off, rested_worker, root_alone, handed, DoneReturnsAll}
use Rattle.refinement.proofs.below.ledger_step_laws.BeforeLast as before_last
use Rattle.refinement_laws.proofs.whole.HandedBack.{handed_done}

module _ (p : ProgramText) (s : SettingsValue) (l l' : Ledger) (t w k : ℕ) (E : RunsPrivateSteps p s l l' t w k) (done : l'.machine.end ≡ Some Done) where
  abbrev m : Ledger
  m = task_steps p l t k

  -- a task other than the root doesn't run
  pub others_idle : (D : LastStepEndsRun m l' t E.splits.task) (u : ℕ) → (u ≡ t → ⊥) → is_running (slice_get m.machine.tasks u) ≡ false
  others_idle D u ne = others_idle_by_cases (slice_get m.machine.tasks u) refl
    where
      by_runs : (y : Task) → slice_get m.machine.tasks u ≡ Some y → (b : Bool) → is_running (Some y) ≡ b → b ≡ false
      by_runs y is false q = refl
      by_runs y is true q =
          absurd (ne (root_alone m (before_last.known p s l l' t w k E).sound E.root t u E.splits.task y E.splits.at.task (ap runs E.splits.at.runs) D.root is q))

      others_idle_by_cases : (o : Option Task) → slice_get m.machine.tasks u ≡ o → is_running o ≡ false
      others_idle_by_cases None is = refl
      others_idle_by_cases (Some y) is = by_runs y is (is_running (Some y)) refl

  rests_done : LastStepEndsRun m l' t E.splits.task → (u : ℕ) → Rests (rested l' t) u
  rests_done D u = elim (cases_eq u t) [
    | inl e ↦ subst (Rests (rested l' t)) (sym e) (rested_worker l' t)
    | inr ne ↦ ap (λ o. (or_fresh o).worker) (with_off l' t u let_go ne) ∙ (ap (λ hs. (or_fresh (slice_get hs u)).worker) D.heaps ∙ E.idle u (others_idle D u ne))
  ]

  rests_by_kind : (kind : LastKind) → IsOfKind p m l' t E.splits.task E.splits.line kind → (GoesOn kind → l'.machine.end ≡ None) → (u : ℕ) → Rests (handed l') u
  rests_by_kind Private K on u = none_some (sym (on tt) ∙ done)
  rests_by_kind Reading K on u = none_some (sym (on tt) ∙ done)
  rests_by_kind Writing K on u = none_some (sym (on tt) ∙ done)
  rests_by_kind Printing K on u = none_some (sym (on tt) ∙ done)
  rests_by_kind Forking K on u = none_some (sym (on tt) ∙ done)
  rests_by_kind Ending K on u = none_some (sym (on tt) ∙ done)
  rests_by_kind Joining K on u = none_some (sym (on tt) ∙ done)
  rests_by_kind Finishing K on u = subst (λ (z : Ledger). Rests z u) (sym (handed_done l l' t w k p s E K)) (rests_done K u)
  rests_by_kind Halting K on u = absurd (K.other (same_Some K.end Done (sym (ap (λ (z : MachineState). z.end) K.machine) ∙ done)))

pub done_returns_all : DoneReturnsAll
done_returns_all p s l l' t w k E done u = rests_by_kind p s l l' t w k E done E.splits.kind E.splits.last E.splits.on u
