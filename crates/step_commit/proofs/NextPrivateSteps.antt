-- A part's next private steps, in the accounts: they are private there, neither due nor in need, and the heap follows.
use Rattle.step_commit.proofs.Common.{◌≡◌, ℕ, zero, suc, ◌+◌, ◌<◌, ◌≤◌, ◌^◌, arith, true, false, Some, None, slice_get, nat_le, refl, ap, ap₂, sym, subst, ◌∙◌, ProgramText, Running, Task, MachineState, asked, step, SettingsValue, Heap, Ledger, heap_of, or_fresh, lacks_room, is_due, is_in_need, is_private, on_asked, task_step, task_steps, task_step_machine, steps_last, ArePrivate, Private, HeapMatchesAccount, KeepsAccounts, RanBy, account_after, account_by, FitsNow as FitsMachine, steps, Places, Ran, allocated_account, After, after_none, after_both, after_one, step_is, RunsSteps}

module _ (p : ProgramText) (s : SettingsValue) (t : ℕ) where
  pub private_more : (n k : ℕ) (l : Ledger) → ArePrivate p s l t n → ArePrivate p s (task_steps p l t n) t k → ArePrivate p s l t (n + k)
  private_more zero k l a b = subst (ArePrivate p s l t) (let e : k ≡ 0 + k = omega arith in e) b
  private_more (suc n) k l a b = subst (ArePrivate p s l t) (let e : suc (n + k) ≡ suc n + k = omega arith in e) (a.0, a.1, a.2, private_more n k (task_step p l t) a.3 b)

  -- step by step
  pub record Each (l : Ledger) (i : ℕ) : Type 0 where
    pub due : is_due s p (task_steps p l t i) t ≡ false
    pub need : is_in_need p (task_steps p l t i) t ≡ false
    pub private : is_private p (task_steps p l t i).machine t ≡ true

  private_each : (k : ℕ) (l : Ledger) → ((i : ℕ) → i < k → Each l i) → ArePrivate p s l t k
  private_each zero l f = tt
  private_each (suc k) l f =
      let a = f 0 (omega arith) in
      (a.due, a.need, a.private, private_each k (task_step p l t) (λ i lt. let b = f (suc i) (omega (arith, lt)) in record { due = b.due; need = b.need; private = b.private }))

  -- how a private step changes the account of its heap
  module _ (l : Ledger) (x : Task) (h : Heap) (going : l.machine.end ≡ None) (is : slice_get l.machine.tasks t ≡ Some x) (run : x.status ≡ Running) (there : slice_get l.heaps t ≡ Some h) (private : is_private p l.machine t ≡ true) where
    pub account_step : slice_get (task_step p l t).heaps t ≡ Some (account_by l.machine t h (asked p l.machine t))
    account_step = ap (λ (k : Ledger). slice_get k.heaps t) (step_is p l t x going is run private) ∙ allocated_account l t h (asked p l.machine t) there

  -- the accounts after n of them
  pub record Follows (l : Ledger) (x : Task) (h : Heap) (i : ℕ) : Type 0 where
    pub after : After l (task_steps p l t i) t x
    pub machine : (task_steps p l t i).machine ≡ steps p l.machine t i
    pub heap : slice_get (task_steps p l t i).heaps t ≡ Some (account_after p l.machine t h i)

  module _ (l : Ledger) (x : Task) (h : Heap) (going : l.machine.end ≡ None) (is : slice_get l.machine.tasks t ≡ Some x) (run : x.status ≡ Running) (there : slice_get l.heaps t ≡ Some h) where
    pub follows : (i : ℕ) → ((j : ℕ) → j < i → is_private p (steps p l.machine t j) t ≡ true) → Follows l x h i
    follows zero f = record { after = after_none l t x is; machine = refl; heap = there }
    follows (suc i) f =
        let F = follows i (λ j lt. f j (omega (arith, lt))) in
        let k : Ledger = task_steps p l t i in
        let private : is_private p k.machine t ≡ true = ap (λ m. is_private p m t) F.machine ∙ f i (omega arith) in
        let goes : k.machine.end ≡ None = F.after.goes ∙ going in
        let runs : F.after.task.status ≡ Running = F.after.status ∙ run in
        let A = after_one p k t F.after.task goes F.after.is runs private in
        let H = account_step k F.after.task (account_after p l.machine t h i) goes F.after.is runs F.heap private in
        record {
          after = subst (λ (z : Ledger). After l z t x) (sym (steps_last p l t i)) (after_both l k (task_step p k t) t x F.after A);
          machine = ap (λ (z : Ledger). z.machine) (steps_last p l t i) ∙ (task_step_machine p k t ∙ ap (λ m. step p m t) F.machine);
          heap = ap (λ (z : Ledger). slice_get z.heaps t) (steps_last p l t i) ∙ (H ∙ ap (λ (m : MachineState). Some (account_by m t (account_after p l.machine t h i) (asked p m t))) F.machine);
        }

-- WHAT A RUN OF A PART ENSURES, in accounts whose machine the part fitted: the steps are private there, neither due nor
-- in need, the part's heap is as its account says afterwards, and the part fits the machine
module _ (p : ProgramText) (s : SettingsValue) (old new : Private) (k : ℕ) (R : RunsSteps p old k new) (C : KeepsAccounts p old k new) (leaf : old.leaf_limit ≡ s.leaf) (small : old.leaf_limit < 2 ^ 64)
    (l : Ledger) (x : Task) (h : Heap) (going : l.machine.end ≡ None) (is : slice_get l.machine.tasks old.task ≡ Some x) (run : x.status ≡ Running) (there : slice_get l.heaps old.task ≡ Some h)
    (above : Places) (F : FitsMachine p old l.machine above) (counts : HeapMatchesAccount old.heap h) where
  A : Ran p old l.machine above k new
  A = R l.machine above F

  B : RanBy p old l.machine k new h
  B = C l.machine above h F small counts

  follows_at : (i : ℕ) → i ≤ k → Follows p s old.task l x h i
  follows_at i le = follows p s old.task l x h going is run there i (λ j lt. A.private j (omega (arith, lt, le)))

  each : (i : ℕ) → i < k → Each p s old.task l i
  each i lt =
      let G = follows_at i (omega (arith, lt)) in
      let account : heap_of (task_steps p l old.task i) old.task ≡ account_after p l.machine old.task h i = ap or_fresh G.heap in
      record {
        due =
            ap₂ (λ (m : MachineState) (z : Heap). on_asked (asked p m old.task) (λ w. nat_le s.leaf z.since)) G.machine account
            ∙ (ap (λ n. on_asked (asked p (steps p l.machine old.task i) old.task) (λ w. nat_le n (account_after p l.machine old.task h i).since)) (sym leaf) ∙ B.not_due i lt);
        need = ap₂ (λ (m : MachineState) (z : Heap). on_asked (asked p m old.task) (lacks_room z)) G.machine account ∙ B.not_in_need i lt;
        private = ap (λ m. is_private p m old.task) G.machine ∙ A.private i lt;
      }

  pub ran_private : ArePrivate p s l old.task k
  ran_private = private_each p s old.task k l each

  pub ran_machine : FitsMachine p new (task_steps p l old.task k).machine above
  ran_machine = subst (λ (m : MachineState). FitsMachine p new m above) (sym (follows_at k (omega arith)).machine) A.fits
