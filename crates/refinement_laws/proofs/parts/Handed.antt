-- The part that its worker has after an entry fits the returned value.
use Rattle.refinement_laws.proofs.Common.{◌≡◌, ℕ, arith, Some, inl, inr, refl, ap, sym, ◌∙◌, cases_eq, ProgramText, SettingsValue, Ledger, heap_of, or_fresh, let_go, task_steps, heap_machine, rested, with_off, rested_worker, rested_view, Belongings, Memory, MemoryStands, FitsAt, with_belongings, ahead, part_for, numbered, stepped, renewed, stored}
use Rattle.refinement_laws.proofs.parts.Statements.{StoresFit, NumbersFit, QuietFitsAt, StepsFit}

fits_now : (p : ProgramText) (s : SettingsValue) (t : ℕ) (g : Belongings) (v : Memory) (l : Ledger) (w : ℕ) → (heap_of l t).worker ≡ Some w → MemoryStands (with_belongings v t g) (rested l t) → FitsAt p s (part_for s t g 0) v l
fits_now p s t g v l w out V = record { worker = w; out = out; few = omega arith; private = tt; stands = V }

pub stores_fit : StoresFit
stores_fit p s q v v' l l' g w z n o ro rv i c f fs a S F out L C at =
    fits_now p s q.task g v' l' w out
    (stored (with_belongings v q.task q.belongings) (with_belongings v' q.task g) (ahead p q l) (rested l' q.task) q.task z n o ro rv i c f fs a S F.stands (rested_worker (task_steps p l q.task q.fresh) q.task) L C at)

pub numbers_fit : NumbersFit
numbers_fit p s q v v' l l' g w z n o ro rv i f fs a S F out L C at =
    fits_now p s q.task g v' l' w out
    (numbered (with_belongings v q.task q.belongings) (with_belongings v' q.task g) (ahead p q l) (rested l' q.task) q.task z n o ro rv i f fs a S F.stands (rested_worker (task_steps p l q.task q.fresh) q.task) L C at)

pub quiet_fits : QuietFitsAt
quiet_fits p s t h g v v' l l' L C F =
    fits_now p s t g v' l' F.worker (L.worker t ∙ F.out)
    (renewed (with_belongings v t h) (with_belongings v' t g) (rested l t) (rested l' t) F.stands
    (record {
      machine = heap_machine l' t let_go ∙ (L.machine ∙ sym (heap_machine l t let_go));
      worker = λ u. elim (cases_eq u t) [
        | inl e ↦ ap (λ z. (heap_of (rested l' t) z).worker) e ∙ (rested_worker l' t ∙ (sym (rested_worker l t) ∙ ap (λ z. (heap_of (rested l t) z).worker) (sym e)))
        | inr ne ↦ ap (λ o. (or_fresh o).worker) (with_off l' t u let_go ne) ∙ (L.worker u ∙ ap (λ o. (or_fresh o).worker) (sym (with_off l t u let_go ne)))
      ];
      snapshot = λ u. elim (cases_eq u t) [
        | inl e ↦
            ap (λ z. (heap_of (rested l' t) z).snapshot) e
            ∙ (rested_view (λ h. h.snapshot) (λ h. refl) l' t ∙ (L.snapshot t ∙ (sym (rested_view (λ h. h.snapshot) (λ h. refl) l t) ∙ ap (λ z. (heap_of (rested l t) z).snapshot) (sym e))))
        | inr ne ↦ ap (λ o. (or_fresh o).snapshot) (with_off l' t u let_go ne) ∙ (L.snapshot u ∙ ap (λ o. (or_fresh o).snapshot) (sym (with_off l t u let_go ne)))
      ];
    }) C)

pub steps_fit : StepsFit
steps_fit p s q v v' l l' g w S S' F out A idle C H =
    fits_now p s q.task g v' l' w out
    (stepped (with_belongings v q.task q.belongings) (with_belongings v' q.task g) (ahead p q l) (rested l' q.task) q.task S S' F.stands A (rested_worker (task_steps p l q.task q.fresh) q.task) (rested_worker l' q.task) idle C H)
