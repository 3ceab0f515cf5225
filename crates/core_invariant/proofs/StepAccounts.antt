-- What private steps of a task keep of the accounts.
use Rattle.core_invariant.proofs.Common.{◌≡◌, ℕ, zero, suc, ◌+◌, ◌-◌, ◌++◌, ◌||◌, Bool, true, false, cond, Option, Some, None, List, [], ◌∷◌, slice_get, option_map, refl, ap, ap₂, sym, subst, ◌∙◌, cond-true, cond-false, got_same, got_other, ProgramText, Name, Running, Task, MachineState, step, can_step, goes_on, is_running, runs, asked, SettingsValue, Heap, Ledger, or_fresh, fresh, put_last, is_small_size, allocated_by, allocated_in, settled, moved_on, stepped_to, task_step, task_steps, is_private, is_due, is_in_need, standing, allocated_end, ArePrivate, private_off, with_at, heap_then, GoesOn, private_on}
use Rattle.refinement_laws.specs.below.run_ledger.{with_allocation, moved_to}

-- what no allocation changes of an account
abbrev pub hold : Heap → Option ℕ × Option ℕ × List Name × Bool
hold h = (h.worker, h.begun, h.snapshot, h.swept)

abbrev or_hold : Option (Option ℕ × Option ℕ × List Name × Bool) → Option ℕ × Option ℕ × List Name × Bool
or_hold None = hold fresh
or_hold (Some x) = x

hold_or : (o : Option Heap) → hold (or_fresh o) ≡ or_hold (option_map hold o)
hold_or None = refl
hold_or (Some h) = refl

pub hold_same : (o o' : Option Heap) → option_map hold o' ≡ option_map hold o → hold (or_fresh o') ≡ hold (or_fresh o)
hold_same o o' e = hold_or o' ∙ (ap or_hold e ∙ sym (hold_or o))

placed_hold : (h : Heap) (n : Name) (w : ℕ) → hold (with_allocation h n w) ≡ hold h
placed_hold h n w = placed_hold_by_cases (is_small_size w)
  where
    placed_hold_by_cases : (b : Bool) → hold (cond b (record h { chunks = put_last h.chunks n; room = h.room - w; since = h.since + w }) (record h { large = h.large ++ n ∷ []; reserved = 0; since = h.since + w })) ≡ hold h
    placed_hold_by_cases true = refl
    placed_hold_by_cases false = refl

pub record After (l l' : Ledger) (t : ℕ) (x : Task) : Type 0 where
  pub task : Task
  pub is : slice_get l'.machine.tasks t ≡ Some task
  pub parent : task.parent ≡ x.parent
  pub status : task.status ≡ x.status
  pub others : (u : ℕ) → (u ≡ t → ⊥) → slice_get l'.machine.tasks u ≡ slice_get l.machine.tasks u
  pub outputs : l'.machine.outputs ≡ l.machine.outputs
  pub limit : l'.machine.field_limit ≡ l.machine.field_limit
  pub goes : l'.machine.end ≡ l.machine.end
  pub end : l'.end ≡ l.end
  pub heaps : (u : ℕ) → (u ≡ t → ⊥) → slice_get l'.heaps u ≡ slice_get l.heaps u
  pub heap : option_map hold (slice_get l'.heaps t) ≡ option_map hold (slice_get l.heaps t)

pub after_none : (l : Ledger) (t : ℕ) (x : Task) → slice_get l.machine.tasks t ≡ Some x → After l l t x
after_none l t x is = record { task = x; is = is; parent = refl; status = refl; others = λ u ne. refl; outputs = refl; limit = refl; goes = refl; end = refl; heaps = λ u ne. refl; heap = refl }

pub after_both : (l k m : Ledger) (t : ℕ) (x : Task) → (A : After l k t x) → After k m t A.task → After l m t x
after_both l k m t x A B = record {
  task = B.task;
  is = B.is;
  parent = B.parent ∙ A.parent;
  status = B.status ∙ A.status;
  others = λ u ne. B.others u ne ∙ A.others u ne;
  outputs = B.outputs ∙ A.outputs;
  limit = B.limit ∙ A.limit;
  goes = B.goes ∙ A.goes;
  end = B.end ∙ A.end;
  heaps = λ u ne. B.heaps u ne ∙ A.heaps u ne;
  heap = B.heap ∙ A.heap;
}

then_hold : (f : Heap → Heap) → ((h : Heap) → hold (f h) ≡ hold h) → (o : Option Heap) → option_map hold (heap_then f o) ≡ option_map hold o
then_hold f same None = refl
then_hold f same (Some h) = ap Some (same h)

alloc_hold : (l : Ledger) (t : ℕ) (o : Option ℕ) → option_map hold (slice_get (allocated_by l t o).heaps t) ≡ option_map hold (slice_get l.heaps t)
alloc_hold l t None = refl
alloc_hold l t (Some w) = ap (option_map hold) (with_at l t _) ∙ then_hold _ (λ h. placed_hold h _ w) (slice_get l.heaps t)

module _ (p : ProgramText) (l : Ledger) (t : ℕ) (x : Task) (going : l.machine.end ≡ None) (is : slice_get l.machine.tasks t ≡ Some x) (run : x.status ≡ Running) (private : is_private p l.machine t ≡ true) where
  pub can : can_step l.machine t ≡ true
  can = ap₂ (λ e o. goes_on e (is_running o)) going is ∙ ap runs run

  abbrev b : Ledger
  b = allocated_in p l t

  abbrev then_ : Ledger
  then_ = record b { machine = step p l.machine t; steps = b.steps + 1 }

  G : GoesOn l.machine t x (step p l.machine t)
  G = private_on p l.machine t x can is private

  task_after_step : slice_get (step p l.machine t).tasks t ≡ Some G.task
  task_after_step = ap (λ (m : MachineState). slice_get m.tasks t) G.is ∙ got_same l.machine.tasks t x G.task is

  pub step_is : task_step p l t ≡ then_
  step_is =
      let end : (step p l.machine t).end ≡ None = ap (λ (m : MachineState). m.end) G.is ∙ going in
      cond-true (can_step l.machine t) (stepped_to b t (step p l.machine t)) (record l { steps = l.steps + 1 }) can
      ∙ (ap (settled then_ t) end ∙ (ap (moved_to then_ t) task_after_step ∙ ap (moved_on then_ t G.task.parent) (G.status ∙ run)))

  after_then : After l then_ t x
  after_then = record {
    task = G.task;
    is = task_after_step;
    parent = G.parent;
    status = G.status;
    others = λ u ne. ap (λ (m : MachineState). slice_get m.tasks u) G.is ∙ got_other l.machine.tasks t u G.task ne;
    outputs = ap (λ (m : MachineState). m.outputs) G.is;
    limit = ap (λ (m : MachineState). m.field_limit) G.is;
    goes = ap (λ (m : MachineState). m.end) G.is;
    end = allocated_end l t (asked p l.machine t);
    heaps = λ u ne. ap (λ (k : Ledger). slice_get k.heaps u) (sym step_is) ∙ private_off p l t private u ne;
    heap = alloc_hold l t (asked p l.machine t);
  }

  pub after_one : After l (task_step p l t) t x
  after_one = subst (λ (k : Ledger). After l k t x) (sym step_is) after_then

module _ (p : ProgramText) (s : SettingsValue) (t : ℕ) where
  pub after_all : (k : ℕ) (l : Ledger) (x : Task) → l.machine.end ≡ None → slice_get l.machine.tasks t ≡ Some x → x.status ≡ Running → ArePrivate p s l t k → After l (task_steps p l t k) t x
  after_all zero l x going is run h = after_none l t x is
  after_all (suc k) l x going is run h =
      let A = after_one p l t x going is run h.2 in
      after_both l (task_step p l t) (task_steps p (task_step p l t) t k) t x A (after_all k (task_step p l t) A.task (A.goes ∙ going) A.is (A.status ∙ run) h.3)

  -- they all fit in one entry
  pub all_stand : (k : ℕ) (l : Ledger) → ArePrivate p s l t k → standing s p l t k ≡ k
  all_stand zero l h = refl
  all_stand (suc k) l h =
      let none : (is_due s p l t || is_in_need p l t) ≡ false = ap₂ (λ a b. a || b) h.0 h.1 in
      cond-false (is_due s p l t || is_in_need p l t) 0 (cond (is_private p l.machine t) (suc (standing s p (task_step p l t) t k)) 1) none
      ∙ (cond-true (is_private p l.machine t) (suc (standing s p (task_step p l t) t k)) 1 h.2 ∙ ap suc (all_stand k (task_step p l t) h.3))

-- the workers of tasks, if no account's worker changes
abbrev worker_of : Heap → Option ℕ
worker_of h = h.worker
