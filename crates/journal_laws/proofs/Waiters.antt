-- No worker holds a task that waits.
use Rattle.journal_laws.proofs.Common.{◌≡◌, ℕ, zero, suc, ◌+◌, Bool, true, false, cond, Option, Some, None, slice_get, slice_set, nat_lt, inl, inr, refl, ap, sym, ◌∙◌, is_none, is_some, false≢true, cases_eq, and_parts, got_same, got_other, Kind, Took, Ran, Chunk, Begin, End as EndOf, PutOff, Mark, More, Sweep, Fuel, SettingsValue, ProgramText, MachineState, step, can_step, asked, is_running, waiting, WaitsAlone, waits_alone, Heap, Ledger, Pool, with_heap, in_use, collected, swept_heap, allocated_in, stepped_to, task_step, task_steps, on_asked, is_small_size, kind_refusal, after_kind, is_ready, with_chunk, chunk_units, opening, ledger_of, WaitersAreFree, stepped_machine, SoundLedger, SoundAt, StepLeaves, step_keeps, step_leaves, steps_keep, worker_at, wait_run, with_heap_any, chunk_worker_by, worker_of, journal_keeps, none_unless, out_tells, opening_sound}

abbrev pub Free : Ledger → Type 0
Free l = (u : ℕ) → waiting l.machine.tasks u ≡ true → worker_at (slice_get l.heaps u) ≡ None

module _ (p : ProgramText) (l : Ledger) (t : ℕ) (S : SoundAt t l) (I : Free l) (can : can_step l.machine t ≡ true) where
  abbrev k : Ledger
  k = stepped_to (allocated_in p l t) t (step p l.machine t)

  abbrev leaves : StepLeaves t l (allocated_in p l t) k
  leaves = step_leaves p l t S can

  alone : WaitsAlone p l.machine t
  alone = waits_alone p l.machine t S.0.fork_join

  abbrev machine_is : k.machine ≡ step p l.machine t
  machine_is = stepped_machine (allocated_in p l t) t (step p l.machine t)

  waits_now : (u : ℕ) → waiting k.machine.tasks u ≡ true → waiting (step p l.machine t).tasks u ≡ true
  waits_now u w = ap (λ (m : MachineState). waiting m.tasks u) (sym machine_is) ∙ w

  own_free : waiting k.machine.tasks t ≡ true → worker_at (slice_get k.heaps t) ≡ None
  own_free w = elim (leaves.3) [
    | inl over ↦ absurd (false≢true (sym (ap is_some (ap (λ (m : MachineState). m.end) machine_is ∙ alone.own can (waits_now t w))) ∙ over))
    | inr more ↦ elim more [ inl runs ↦ absurd (wait_run k.machine t w runs) | inr none ↦ none ]
  ]

  step_free : Free k
  step_free u w = elim (cases_eq u t) [
    | inl e ↦ ap (λ v. worker_at (slice_get k.heaps v)) e ∙ own_free (ap (waiting k.machine.tasks) (sym e) ∙ w)
    | inr ne ↦ ap worker_at (leaves.4 u ne (inr w)) ∙ I u (alone.others u ne (waits_now u w))
  ]

task_step_free : (p : ProgramText) (l : Ledger) (t : ℕ) → SoundAt t l → Free l → Free (task_step p l t)
task_step_free p l t S I = step_keeps Free p l t (step_free p l t S I) I

task_steps_free : (p : ProgramText) (k : ℕ) (l : Ledger) (t : ℕ) → SoundAt t l → Free l → Free (task_steps p l t k)
task_steps_free p k l t S I = steps_keep Free p t (λ m R J. task_step_free p m t R J) k l S I

-- a heap's account changes, and not its worker
set_free : (l : Ledger) (t : ℕ) (f : Heap → Heap) → ((h : Heap) → (f h).worker ≡ h.worker) → Free l → Free (with_heap l t f)
set_free l t f same I = with_heap_any Free l t f I (λ h e u w. elim (cases_eq u t) [
  | inl q ↦
      ap (λ v. worker_at (slice_get (slice_set l.heaps t (f h)) v)) q
      ∙ (ap worker_at (got_same l.heaps t h (f h) e) ∙ (same h ∙ (sym (ap worker_at e) ∙ (ap (λ v. worker_at (slice_get l.heaps v)) (sym q) ∙ I u w))))
  | inr ne ↦ ap worker_at (got_other l.heaps t u (f h) ne) ∙ I u w
])

took_free : (l : Ledger) (w t : ℕ) → is_running (slice_get l.machine.tasks t) ≡ true → Free l → Free (with_heap l t (λ h. record h { worker = Some w }))
took_free l w t runs I = with_heap_any Free l t (λ h. record h { worker = Some w }) I (λ h e u wait. elim (cases_eq u t) [
  | inl q ↦ absurd (wait_run l.machine t (ap (waiting l.machine.tasks) (sym q) ∙ wait) runs)
  | inr ne ↦ ap worker_at (got_other l.heaps t u (record h { worker = Some w }) ne) ∙ I u wait
])

chunk_free : (l : Ledger) (t : ℕ) (next : Option ℕ) (full : Bool) → Free l → Free (cond full (record l { end = Some (Pool (in_use l)) }) (with_heap l t (with_chunk next)))
chunk_free l t next true I = I
chunk_free l t next false I = set_free l t (with_chunk next) (λ h. chunk_worker_by h (chunk_units next) (on_asked next is_small_size)) I

kind_free : (p : ProgramText) (s : SettingsValue) (l : Ledger) (w : ℕ) (kind : Kind) → SoundLedger l → is_none (kind_refusal p s l w kind) ≡ true → Free l → Free (after_kind p s l w kind)
kind_free p s l w (Took t) S h I = took_free l w t (and_parts (is_running (slice_get l.machine.tasks t)) _ (none_unless (is_ready l t) _ _ h).0).0 I
kind_free p s l w (Ran t k) S h I = task_steps_free p k l t (S, (out_tells l w t _ h).1) I
kind_free p s l w (Chunk t) S h I = chunk_free l t (asked p l.machine t) (nat_lt s.chunks (in_use l + chunk_units (asked p l.machine t))) I
kind_free p s l w (Begin t) S h I = set_free l t _ (λ g. refl) I
kind_free p s l w (EndOf t a g n) S h I = set_free l t (collected l.machine) (λ g. refl) I
kind_free p s l w (PutOff t) S h I = set_free l t _ (λ g. refl) I
kind_free p s l w (Mark t) S h I = set_free l t _ (λ g. refl) I
kind_free p s l w (More t n) S h I = set_free l t _ (λ g. refl) I
kind_free p s l w (Sweep t g) S h I = set_free l t swept_heap (λ g. refl) I
kind_free p s l w Fuel S h I = I

opening_free : (p : ProgramText) (s : SettingsValue) → Free (opening p s)
opening_free p s zero w = refl
opening_free p s (suc u) w = refl

pub waiters_are_free : WaitersAreFree
waiters_are_free p s journal legal t w =
    let l : Ledger = ledger_of p s journal in
    let free : Free l = journal_keeps Free p s (kind_free p s) journal (opening p s) (opening_sound p s) (opening_free p s) legal in
    worker_of l t ∙ free t w
