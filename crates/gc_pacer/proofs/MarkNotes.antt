-- What follows from the entry that begins a marking for the accounts after it.
use Rattle.gc_pacer.proofs.Common.{◌≡◌, ℕ, ◌<◌, true, Option, Some, None, List, length, slice_get, refl, ap, ◌∙◌, arith, is_some, is_none, got_within, got_some, MachineState, Task, is_waiting, Mark, Heap, Ledger, heap_of, or_fresh, with_heap, SoundLedger, entry_tells, legal_sound, wait_tells, heap_end, heap_machine, heap_then, with_at, refused, Enters, IsSharedValue, SharedValue, accounts, entry_on, entered_accounts}

made_by : (ts : List Task) (t : ℕ) (o : Option Task) → slice_get ts t ≡ o → is_waiting o ≡ true → t < length ts
made_by ts t None e w = absurd (let q : is_waiting None ≡ true = w in cc)
made_by ts t (Some x) e w = got_within ts t x e

module _ (w w' : SharedValue) (k t : ℕ) (I : IsSharedValue w) (E : Enters w w' (record { worker = k; kind = Mark t })) (free : refused w (record { worker = k; kind = Mark t }) ≡ None) where
  abbrev l : Ledger
  l = accounts w

  abbrev begins : Heap → Heap
  begins h = record h { marked = Some 0 }

  accounts_after_mark : accounts w' ≡ with_heap l t begins
  accounts_after_mark = entered_accounts w w' (record { worker = k; kind = Mark t }) E

  waited : is_waiting (slice_get l.machine.tasks t) ≡ true
  waited = (wait_tells l t _ (entry_tells w.program w.settings l (record { worker = k; kind = Mark t }) (ap is_none free)).2).0

  pub mark_goes : (accounts w').end ≡ None
  mark_goes = ap (λ (m : Ledger). m.end) accounts_after_mark ∙ (heap_end l t begins ∙ entry_on w (record { worker = k; kind = Mark t }) free)

  pub mark_waits : is_waiting (slice_get (accounts w').machine.tasks t) ≡ true
  mark_waits = ap (λ (m : Ledger). is_waiting (slice_get m.machine.tasks t)) accounts_after_mark ∙ (ap (λ (m : MachineState). is_waiting (slice_get m.tasks t)) (heap_machine l t begins) ∙ waited)

  pub mark_marked : is_some (heap_of (accounts w') t).marked ≡ true
  mark_marked =
      let lt : t < length l.machine.tasks = made_by l.machine.tasks t (slice_get l.machine.tasks t) refl waited in
      let sound : SoundLedger l = legal_sound w.program w.settings w.journal.items I.legal in
      let h = got_some l.heaps t (omega (arith, sound.lengths, lt)) in
      ap (λ (m : Ledger). is_some (heap_of m t).marked) accounts_after_mark ∙ ap (λ o. is_some (or_fresh o).marked) (with_at l t begins ∙ ap (heap_then begins) h.1)
