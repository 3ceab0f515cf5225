-- Sweeps and the ends of leaf collections keep each part of another task fitting: the laws of the ledger that this
-- needs are proved.
use Rattle.refinement_laws.proofs.Common.{◌≡◌, ℕ, true, false, slice_get, ◌⊎◌, inl, inr, refl, ap, sym, subst, ◌∙◌, ProgramText, SettingsValue, is_waiting, Ledger, heap_of, or_fresh, task_steps, SoundLedger, collecting, task_steps_sound, Memory, Rests, ArePrivate, StepsAlone, ChangesHeap, Part, FitsAt, ahead, KeepsJust, IsSteady, SameOf, steps_alone_all, steps_same, rested_alone, rested_same, rested_sound, machine_alone, steady_same}
use Rattle.refinement_laws.proofs.parts.Frame.{sweep_frame}

module _ (p : ProgramText) (s : SettingsValue) (q : Part) where
  many_alone : (k : ℕ) (l : Ledger) → SoundLedger l → (k ≡ 0) ⊎ (collecting (slice_get l.heaps q.task) ≡ false) → ArePrivate p s l q.task k → StepsAlone l (task_steps p l q.task k) q.task
  many_alone k l S (inr c) h = steps_alone_all p s q.task k l (S, c) h
  many_alone k l S (inl e) h = subst (λ j. StepsAlone l (task_steps p l q.task j) q.task) (sym e) (machine_alone l l q.task refl (λ u ne. refl))

  many_sound : (k : ℕ) (l : Ledger) → SoundLedger l → (k ≡ 0) ⊎ (collecting (slice_get l.heaps q.task) ≡ false) → SoundLedger (task_steps p l q.task k)
  many_sound k l S (inr c) = (task_steps_sound p k l q.task (S, c)).0
  many_sound k l S (inl e) = subst (λ j. SoundLedger (task_steps p l q.task j)) (sym e) S

  pub ahead_alone : (l : Ledger) → SoundLedger l → IsSteady q l → ArePrivate p s l q.task q.fresh → StepsAlone l (ahead p q l) q.task
  ahead_alone l S c h = rested_alone l (task_steps p l q.task q.fresh) q.task (many_alone q.fresh l S c h)

  pub ahead_sound : (l : Ledger) → SoundLedger l → IsSteady q l → SoundLedger (ahead p q l)
  ahead_sound l S c = rested_sound (task_steps p l q.task q.fresh) q.task (many_sound q.fresh l S c)

  -- an entry that keeps the machine and the account of the part's heap: the steps are private after it too, and have
  -- the same result
  pub ahead_same : (l l' : Ledger) → SameOf q.task l l' → ArePrivate p s l q.task q.fresh → ArePrivate p s l' q.task q.fresh × SameOf q.task (ahead p q l) (ahead p q l')
  ahead_same l l' E h = let r = steps_same p s q.task q.fresh l l' E h in (r.0, rested_same (task_steps p l q.task q.fresh) (task_steps p l' q.task q.fresh) q.task r.1)

  -- a sweep of another task's heap keeps the part fitting
  pub fits_sweep : (v v' : Memory) (l l' : Ledger) (t : ℕ) → SoundLedger l → SoundLedger l' → IsSteady q l → (t ≡ q.task → ⊥) → is_waiting (slice_get l.machine.tasks t) ≡ true → Rests l t
      → ChangesHeap l l' t → slice_get l'.heaps q.task ≡ slice_get l.heaps q.task → KeepsJust v v' l l' t (heap_of l t).snapshot → FitsAt p s q v l → FitsAt p s q v' l'
  fits_sweep v v' l l' t S S' c apart waits rests L same C F =
      let E : SameOf q.task l l' = record { machine = L.machine; heap = same } in
      let a = ahead_same l l' E F.private in
      let c' : IsSteady q l' = steady_same q l l' same c in
      record {
        worker = F.worker;
        out = ap (λ o. (or_fresh o).worker) same ∙ F.out;
        few = F.few;
        private = a.0;
        stands = sweep_frame v v' l l' (ahead p q l) (ahead p q l') t q.task q.belongings apart (ahead_alone l S c F.private) (ahead_alone l' S' c' a.0) a.1.machine (ap or_fresh a.1.heap) (ahead_sound l S c) waits rests L C F.stands;
      }
