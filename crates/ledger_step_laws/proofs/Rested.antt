-- A task is released.
use Rattle.ledger_step_laws.proofs.Common.{◌≡◌, ℕ, List, slice_set, Some, length, slice_get, ◌⊎◌, inl, inr, refl, ap, sym, subst, ◌∙◌, Option, None, cases_eq, Name, Heap, Ledger, heap_of, or_fresh, let_go, with_heap_at, SoundLedger, renewed, MachineState, IsStored, Closed, heap_machine, heap_view, ChangesHeap, Rests, rested, LedgerIsKnown}
use Rattle.ledger_step_laws.proofs.Ahead.{heap_then, with_at, with_off}

pub name_cases : (m n : Name) → (m ≡ n) ⊎ (m ≡ n → ⊥)
name_cases m n = elim (cases_eq m.task n.task) [
  | inl e ↦ elim (cases_eq m.count n.count) [
    | inl f ↦ inl (λ i. record { task = e i; count = f i })
    | inr ne ↦ inr (λ q. ne (ap (λ (k : Name). k.count) q))
  ]
  | inr ne ↦ inr (λ q. ne (ap (λ (k : Name). k.task) q))
]

pub rested_worker : (l : Ledger) (t : ℕ) → Rests (rested l t) t
rested_worker l t = ap (λ o. (or_fresh o).worker) (with_at l t let_go) ∙ rested_worker_by_cases (slice_get l.heaps t)
  where
    rested_worker_by_cases : (o : Option Heap) → (or_fresh (heap_then let_go o)).worker ≡ None
    rested_worker_by_cases None = refl
    rested_worker_by_cases (Some h) = refl

pub rested_view : {A : Type 0} (view : Heap → A) → ((h : Heap) → view (let_go h) ≡ view h) → (l : Ledger) (t : ℕ) → view (heap_of (rested l t) t) ≡ view (heap_of l t)
rested_view view same l t = heap_view view l t let_go same t

-- a heap's change is the same with its task at rest
pub rested_changes : (l l' : Ledger) (t : ℕ) → ChangesHeap l l' t → ChangesHeap (rested l t) (rested l' t) t
rested_changes l l' t C = record {
  machine = heap_machine l' t let_go ∙ (C.machine ∙ sym (heap_machine l t let_go));
  others = λ u nu. ap or_fresh (with_off l' t u let_go nu) ∙ (C.others u nu ∙ ap or_fresh (sym (with_off l t u let_go nu)));
  worker = rested_worker l' t ∙ sym (rested_worker l t);
  snapshot = rested_view (λ h. h.snapshot) (λ h. refl) l' t ∙ (C.snapshot ∙ sym (rested_view (λ h. h.snapshot) (λ h. refl) l t));
}

pub rested_sound : (l : Ledger) (t : ℕ) → SoundLedger l → SoundLedger (rested l t)
rested_sound l t S = rested_sound_by_cases (slice_get l.heaps t) refl
  where
    rested_sound_by_cases : (o : Option Heap) → slice_get l.heaps t ≡ o → SoundLedger (with_heap_at l t let_go o)
    rested_sound_by_cases None e = S
    rested_sound_by_cases (Some h) e = renewed l.machine.tasks l.machine.edges l.machine.store l.heaps S t h (let_go h) e (λ n i. i) (λ n i. i) refl refl refl

pub rested_knows : (l : Ledger) (t : ℕ) → LedgerIsKnown l → LedgerIsKnown (rested l t)
rested_knows l t K = record {
  sound = rested_sound l t K.sound;
  stored = subst (λ (m : MachineState). Closed m.tasks m.store (IsStored m)) (sym (heap_machine l t let_go)) K.stored;
  rows = subst (λ (m : MachineState). length m.store ≡ length m.tasks) (sym (heap_machine l t let_go)) K.rows;
}

-- the accounts of heaps with a task released
abbrev rest_by : List Heap → ℕ → Option Heap → List Heap
rest_by hs t None = hs
rest_by hs t (Some h) = slice_set hs t (let_go h)

rest_is : (l : Ledger) (t : ℕ) → (rested l t).heaps ≡ rest_by l.heaps t (slice_get l.heaps t)
rest_is l t = rest_is_by_cases (slice_get l.heaps t)
  where
    rest_is_by_cases : (o : Option Heap) → (with_heap_at l t let_go o).heaps ≡ rest_by l.heaps t o
    rest_is_by_cases None = refl
    rest_is_by_cases (Some h) = refl

pub rest_heaps : (l l' : Ledger) (t : ℕ) → l'.heaps ≡ l.heaps → (rested l' t).heaps ≡ (rested l t).heaps
rest_heaps l l' t e = rest_is l' t ∙ (ap (λ hs. rest_by hs t (slice_get hs t)) e ∙ sym (rest_is l t))
