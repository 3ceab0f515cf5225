-- Any number of private steps.
use Rattle.ledger_step_laws.proofs.Common.{◌≡◌, ℕ, zero, suc, true, false, Option, Some, slice_get, ◌⊎◌, inl, inr, ap, ap₂, sym, subst, ◌∙◌, arith, nat_le, refl, ProgramText, SettingsValue, Task, MachineState, IsStored, can_step, goes_on, is_running, Closed, stored_step, Heap, Ledger, or_fresh, lacks_room, task_step, task_steps, on_asked, is_private, task_step_machine, collecting, SoundAt, task_step_sound, ArePrivate, AlikeFor, LedgerIsKnown}
use Rattle.ledger_step_laws.proofs.Ahead.{private_limit, private_end, private_off}
use Rattle.ledger_step_laws.proofs.Commute.{private', alike_step, goes_running, goes_can, goes_rows, alike_self, asked_same}

module _ (p : ProgramText) (s : SettingsValue) (u : ℕ) where
  -- what is known of the accounts stays known
  pub step_knows : (l : Ledger) (x : Task) → LedgerIsKnown l → collecting (slice_get l.heaps u) ≡ false → slice_get l.machine.tasks u ≡ Some x → is_running (Some x) ≡ true → can_step l.machine u ≡ true → is_private p l.machine u ≡ true
      → LedgerIsKnown (task_step p l u) × (collecting (slice_get (task_step p l u).heaps u) ≡ false)
  step_knows l x K c is run can h =
      let S : SoundAt u (task_step p l u) = task_step_sound p l u (K.sound, c) in
      let e = task_step_machine p l u in (
        record {
          sound = S.0;
          stored = subst (λ (m : MachineState). Closed m.tasks m.store (IsStored m)) (sym e) (stored_step p l.machine u K.sound.fork_join K.rows K.stored);
          rows = goes_rows l l u x K K (alike_self u l) is run p can h;
        },
        S.1,
      )

  abbrev Alike : Ledger → Ledger → ℕ → Type 0
  Alike l l' k = ArePrivate p s l' u k × AlikeFor u (task_steps p l u k) (task_steps p l' u k)

  pub alike_steps : (k : ℕ) (l l' : Ledger) (x : Task) → LedgerIsKnown l → LedgerIsKnown l' → (k ≡ 0) ⊎ (collecting (slice_get l.heaps u) ≡ false) → AlikeFor u l l' → slice_get l.machine.tasks u ≡ Some x → is_running (Some x) ≡ true → can_step l.machine u ≡ true
      → ArePrivate p s l u k → Alike l l' k
  alike_steps zero l l' x K K' c A is run can h = (tt, A)
  alike_steps (suc k) l l' x K K' (inl e) A is run can h = absurd (omega (arith, e))
  alike_steps (suc k) l l' x K K' (inr c) A is run can h =
      let h' = private' l l' u x K K' A is run p can h.2 in
      let c' : collecting (slice_get l'.heaps u) ≡ false = ap collecting A.heap ∙ c in
      let can' : can_step l'.machine u ≡ true = ap₂ (λ e o. goes_on e (is_running o)) A.end A.task ∙ can in
      let asks = asked_same l l' u x K K' A is run p can h.2 in
      let a = step_knows l x K c is run can h.2 in
      let a' = step_knows l' x K' c' (A.task ∙ is) run can' h' in
      let g = goes_running l l' u x K K' A is run p can h.2 in
      let more = alike_steps k (task_step p l u) (task_step p l' u) g.0 a.0 a'.0 (inr a.1) (alike_step l l' u x K K' A is run p can h.2) g.1 g.2 (goes_can l l' u x K K' A is run p can h.2) h.3 in (
        (
          ap₂ (λ o (i : Option Heap). on_asked o (λ w. nat_le s.leaf (or_fresh i).since)) asks A.heap ∙ h.0,
          ap₂ (λ o (i : Option Heap). on_asked o (lacks_room (or_fresh i))) asks A.heap ∙ h.1,
          h',
          more.0,
        ),
        more.1,
      )

module _ (p : ProgramText) (s : SettingsValue) (t : ℕ) where
  pub steps_limit : (k : ℕ) (l : Ledger) → ArePrivate p s l t k → (task_steps p l t k).machine.field_limit ≡ l.machine.field_limit
  steps_limit zero l h = refl
  steps_limit (suc k) l h = steps_limit k (task_step p l t) h.3 ∙ private_limit p l t h.2

  pub steps_end : (k : ℕ) (l : Ledger) → ArePrivate p s l t k → (task_steps p l t k).machine.end ≡ l.machine.end
  steps_end zero l h = refl
  steps_end (suc k) l h = steps_end k (task_step p l t) h.3 ∙ private_end p l t h.2

  pub steps_off : (k : ℕ) (l : Ledger) (u : ℕ) → (u ≡ t → ⊥) → ArePrivate p s l t k → slice_get (task_steps p l t k).heaps u ≡ slice_get l.heaps u
  steps_off zero l u ne h = refl
  steps_off (suc k) l u ne h = steps_off k (task_step p l t) u ne h.3 ∙ private_off p l t h.2 u ne

  pub steps_know : (k : ℕ) (l : Ledger) (x : Task) → LedgerIsKnown l → (k ≡ 0) ⊎ (collecting (slice_get l.heaps t) ≡ false) → slice_get l.machine.tasks t ≡ Some x → is_running (Some x) ≡ true → can_step l.machine t ≡ true → ArePrivate p s l t k → LedgerIsKnown (task_steps p l t k)
  steps_know zero l x K c is run can h = K
  steps_know (suc k) l x K (inl e) is run can h = absurd (omega (arith, e))
  steps_know (suc k) l x K (inr c) is run can h =
      let a = step_knows p s t l x K c is run can h.2 in
      let g = goes_running l l t x K K (alike_self t l) is run p can h.2 in
      steps_know k (task_step p l t) g.0 a.0 (inr a.1) g.1 g.2 (goes_can l l t x K K (alike_self t l) is run p can h.2) h.3
