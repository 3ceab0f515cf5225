-- The steps of a task in the ledger: its machine and its account follow.
use Rattle.task_machine.proofs.Common.{◌≡◌, ℕ, zero, suc, ◌≤◌, arith, true, Option, Some, None, length, slice_get, refl, ap, ◌∙◌, got_same, ProgramText, MachineState, row_of, asked, can_step, is_running, step, Heap, Ledger, with_allocation, with_heap_at, allocated_by, task_steps, steps_run_on, goes_tells, steps_last, FollowsSteps, account_after, account_by, steps}

-- how an allocation changes the account
pub allocated_account : (l : Ledger) (t : ℕ) (h : Heap) (o : Option ℕ) → slice_get l.heaps t ≡ Some h → slice_get (allocated_by l t o).heaps t ≡ Some (account_by l.machine t h o)
allocated_account l t h None there = there
allocated_account l t h (Some w) there =
    let f : Heap → Heap = λ z. with_allocation z (record { task = t; count = length (row_of (slice_get l.machine.store t)) }) w in
    ap (λ (q : Option Heap). slice_get (with_heap_at l t f q).heaps t) there ∙ got_same l.heaps t h (f h) there

module _ (p : ProgramText) (l : Ledger) (t : ℕ) (h : Heap) (there : slice_get l.heaps t ≡ Some h) where
  follows : (k : ℕ) → ((i : ℕ) → i ≤ k → can_step (steps p l.machine t i) t ≡ true) → FollowsSteps p l t h k
  follows zero can = record { machine = refl; account = there }
  follows (suc k) can =
      let F = follows k (λ i le. can i (omega (arith, le))) in
      let b : Ledger = task_steps p l t k in
      let old : MachineState = steps p l.machine t k in
      let now : can_step b.machine t ≡ true = ap (λ m. can_step m t) F.machine ∙ can k (omega arith) in
      let new = goes_tells (step p old t).end (is_running (slice_get (step p old t).tasks t)) (can (suc k) (omega arith)) in
      let ends : (step p b.machine t).end ≡ None = ap (λ m. (step p m t).end) F.machine ∙ new.0 in
      let runs : is_running (slice_get (step p b.machine t).tasks t) ≡ true = ap (λ m. is_running (slice_get (step p m t).tasks t)) F.machine ∙ new.1 in
      let last = steps_last p l t k ∙ steps_run_on p b t now ends runs in
      record {
        machine = ap (λ (z : Ledger). z.machine) last ∙ ap (λ m. step p m t) F.machine;
        account =
            ap (λ (z : Ledger). slice_get z.heaps t) last
            ∙ (allocated_account b t (account_after p l.machine t h k) (asked p b.machine t) F.account
            ∙ ap (λ (m : MachineState). Some (account_by m t (account_after p l.machine t h k) (asked p m t))) F.machine);
      }
