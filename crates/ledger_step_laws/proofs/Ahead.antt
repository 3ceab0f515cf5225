-- Private steps of a task change only what it owns, and depend only on the machine and the account of its heap.
use Rattle.ledger_step_laws.proofs.Common.{is_some, ◌≡◌, ℕ, zero, suc, ◌+◌, Bool, true, false, cond, Option, Some, None, List, [], ◌∷◌, ◌++◌, length, slice_get, slice_set, inl, inr, refl, ap, ap₂, sym, subst, ◌∙◌, nat_le, false≢true, cases_eq, cond-true, cond-false, got_same, got_other, same_view, view_step, none_set, ProgramText, SettingsValue, Name, Object, Running, Task, MachineState, object_at, put_object, row_of, step, can_step, is_running, is_waiting, is_joined, is_over, waits, path_in, owner_of, owner_in, parents, joined, parent_of, asked, runs_is, can_runs, owner_here, Heap, Ledger, or_fresh, with_heap, with_heap_at, with_allocation, let_go, lacks_room, allocated_by, allocated_in, moved_on, moved_to, settled, stepped_to, task_step, task_steps, on_asked, is_private, is_due, is_in_need, task_step_machine, heap_machine, SoundLedger, SoundAt, task_step_sound, can_going, put_rows, own, rested, ArePrivate, StepsAlone}
use Rattle.ledger_step_laws.proofs.Private.{GoesOn, StoreBy, private_on}
use Rattle.ledger_step_laws.proofs.Alone.{alone_along, machine_alone}

-- ROWS AND OBJECTS

pub put_other : (store : List (List Object)) (m : Name) (y : Object) (n : Name) → (n ≡ m → ⊥) → object_at (put_object store m y) n ≡ object_at store n
put_other store m y n ne = elim (cases_eq n.task m.task) [
  | inr off ↦ ap (λ r. slice_get (row_of r) n.count) (got_other store m.task n.task (slice_set (row_of (slice_get store m.task)) m.count y) off)
  | inl e ↦
      let count : n.count ≡ m.count → ⊥ = λ f. ne (λ i. record { task = e i; count = f i }) in
      ap (λ k. slice_get (row_of (slice_get (put_object store m y) k)) n.count) e ∙ (row (slice_get store m.task) refl count ∙ ap (λ k. slice_get (row_of (slice_get store k)) n.count) (sym e))
]
  where
    row : (o : Option (List Object)) → slice_get store m.task ≡ o → (n.count ≡ m.count → ⊥) → slice_get (row_of (slice_get (put_object store m y) m.task)) n.count ≡ slice_get (row_of (slice_get store m.task)) n.count
    row None is count =
        ap (λ r. slice_get (row_of r) n.count) (none_set store m.task (slice_set (row_of (slice_get store m.task)) m.count y) is ∙ sym is)
    row (Some xs) is count =
        ap (λ r. slice_get (row_of r) n.count) (got_same store m.task xs (slice_set (row_of (slice_get store m.task)) m.count y) is)
        ∙ got_other (row_of (slice_get store m.task)) m.count n.count y count

-- ACCOUNTS OF AN ALLOCATION

abbrev pub heap_then : (Heap → Heap) → Option Heap → Option Heap
heap_then f None = None
heap_then f (Some h) = Some (f h)

pub with_at : (l : Ledger) (t : ℕ) (f : Heap → Heap) → slice_get (with_heap l t f).heaps t ≡ heap_then f (slice_get l.heaps t)
with_at l t f = with_at_by_cases (slice_get l.heaps t) refl
  where
    with_at_by_cases : (o : Option Heap) → slice_get l.heaps t ≡ o → slice_get (with_heap_at l t f o).heaps t ≡ heap_then f o
    with_at_by_cases None e = e
    with_at_by_cases (Some h) e = got_same l.heaps t h (f h) e

pub with_off : (l : Ledger) (t u : ℕ) (f : Heap → Heap) → (u ≡ t → ⊥) → slice_get (with_heap l t f).heaps u ≡ slice_get l.heaps u
with_off l t u f ne = with_off_by_cases (slice_get l.heaps t)
  where
    with_off_by_cases : (o : Option Heap) → slice_get (with_heap_at l t f o).heaps u ≡ slice_get l.heaps u
    with_off_by_cases None = refl
    with_off_by_cases (Some h) = got_other l.heaps t u (f h) ne

alloc_off : (l : Ledger) (t u : ℕ) (o : Option ℕ) → (u ≡ t → ⊥) → slice_get (allocated_by l t o).heaps u ≡ slice_get l.heaps u
alloc_off l t u None ne = refl
alloc_off l t u (Some w) ne = with_off l t u _ ne

-- two accounts with the same machine, and the same account of t's heap
pub record SameOf (t : ℕ) (l l' : Ledger) : Type 0 where
  pub machine : l'.machine ≡ l.machine
  pub heap : slice_get l'.heaps t ≡ slice_get l.heaps t

alloc_same : (l l' : Ledger) (t : ℕ) → SameOf t l l' → (o : Option ℕ) → slice_get (allocated_by l' t o).heaps t ≡ slice_get (allocated_by l t o).heaps t
alloc_same l l' t E None = E.heap
alloc_same l l' t E (Some w) =
    with_at l' t _ ∙ (ap₂ (λ (m : MachineState) h. heap_then (λ z. with_allocation z (record { task = t; count = length (row_of (slice_get m.store t)) }) w) h) E.machine E.heap ∙ sym (with_at l t _))

-- ONE STEP

module _ (p : ProgramText) (l : Ledger) (t : ℕ) (private : is_private p l.machine t ≡ true) where
  abbrev b : Ledger
  b = allocated_in p l t

  abbrev then_ : Ledger
  then_ = record b { machine = step p l.machine t; steps = b.steps + 1 }

  -- the step's accounts
  step_is : can_step l.machine t ≡ true → (x : Task) → slice_get l.machine.tasks t ≡ Some x → task_step p l t ≡ then_
  step_is can x is =
      let G = private_on p l.machine t x can is private in
      let run : x.status ≡ Running = runs_is x.status (ap is_running (sym is) ∙ can_runs l.machine t can) in
      let end : (step p l.machine t).end ≡ None = ap (λ (m : MachineState). m.end) G.is ∙ can_going l.machine t can in
      let at : slice_get (step p l.machine t).tasks t ≡ Some G.task = ap (λ (m : MachineState). slice_get m.tasks t) G.is ∙ got_same l.machine.tasks t x G.task is in
      cond-true (can_step l.machine t) (stepped_to b t (step p l.machine t)) (record l { steps = l.steps + 1 }) can
      ∙ (ap (settled then_ t) end ∙ (ap (moved_to then_ t) at ∙ ap (moved_on then_ t G.task.parent) (G.status ∙ run)))

  task_there : can_step l.machine t ≡ true → (x : Task) × (slice_get l.machine.tasks t ≡ Some x)
  task_there can = task_there_by_cases (slice_get l.machine.tasks t) refl (can_runs l.machine t can)
    where
      task_there_by_cases : (o : Option Task) → slice_get l.machine.tasks t ≡ o → is_running o ≡ true → (x : Task) × (slice_get l.machine.tasks t ≡ Some x)
      task_there_by_cases None e h = absurd (false≢true h)
      task_there_by_cases (Some x) e h = (x, e)

  stays_same : can_step l.machine t ≡ false → task_step p l t ≡ record l { steps = l.steps + 1 }
  stays_same h = cond-false (can_step l.machine t) (stepped_to b t (step p l.machine t)) (record l { steps = l.steps + 1 }) h

  nothing : (n : ℕ) → StepsAlone l (record l { steps = n }) t
  nothing n = machine_alone l (record l { steps = n }) t refl (λ u ne. refl)

  module _ (S : SoundLedger l) (can : can_step l.machine t ≡ true) (x : Task) (is : slice_get l.machine.tasks t ≡ Some x) where
    abbrev G : GoesOn l.machine t x (step p l.machine t)
    G = private_on p l.machine t x can is private

    abbrev m' : MachineState
    m' = record l.machine { tasks = slice_set l.machine.tasks t G.task; store = G.store }

    par_same : parents m'.tasks ≡ parents l.machine.tasks
    par_same = same_view parent_of l.machine.tasks t x G.task is G.parent

    over_same : is_joined (Some G.task) ≡ is_joined (Some x)
    over_same = ap is_over G.status

    joined_same : joined m'.tasks ≡ joined l.machine.tasks
    joined_same = same_view is_joined l.machine.tasks t x G.task is over_same

    own_self : owner_of l.machine.tasks t ≡ t
    own_self =
        let run : x.status ≡ Running = runs_is x.status (ap is_running (sym is) ∙ can_runs l.machine t can) in
        owner_here (parents l.machine.tasks) (joined l.machine.tasks) t t (ap is_joined is ∙ ap is_over run)

    rows_by : (store : List (List Object)) → StoreBy l.machine t x store → (u : ℕ) → (u ≡ t → ⊥) → length (row_of (slice_get store u)) ≡ length (row_of (slice_get l.machine.store u))
    rows_by store (inl e) u ne = ap (λ s. length (row_of (slice_get s u))) e
    rows_by store (inr (inl a)) u ne = ap (λ s. length (row_of (slice_get s u))) a.1 ∙ ap (λ r. length (row_of r)) (got_other l.machine.store t u (row_of (slice_get l.machine.store t) ++ a.0 ∷ []) ne)
    rows_by store (inr (inr a)) u ne = ap (λ s. length (row_of (slice_get s u))) a.3 ∙ put_rows l.machine.store a.0 a.1 u

    store_by : (store : List (List Object)) → StoreBy l.machine t x store → (n : Name) → (own l n ≡ t → ⊥) → object_at store n ≡ object_at l.machine.store n
    store_by store (inl e) n ne = ap (λ s. object_at s n) e
    store_by store (inr (inl a)) n ne =
        ap (λ s. object_at s n) a.1
        ∙ ap (λ r. slice_get (row_of r) n.count) (got_other l.machine.store t n.task (row_of (slice_get l.machine.store t) ++ a.0 ∷ []) (λ e. ne (ap (owner_of l.machine.tasks) e ∙ own_self)))
    store_by store (inr (inr a)) n ne = ap (λ s. object_at s n) a.3 ∙ put_other l.machine.store a.0 a.1 n (λ e. ne (ap (own l) e ∙ a.2))

    alone_then : StepsAlone l (record b { machine = m'; steps = b.steps + 1 }) t
    alone_then = record {
      tree = record {
        made = view_step is_some l.machine.tasks t x G.task is refl;
        owners = λ a. ap₂ (λ par jd. owner_in par jd a) par_same joined_same;
        paths = λ a u. ap (λ par. path_in par a u) par_same;
        waits = view_step is_waiting l.machine.tasks t x G.task is (ap waits G.status);
        joins = view_step is_joined l.machine.tasks t x G.task is over_same;
      };
      tasks = λ u ne. got_other l.machine.tasks t u G.task ne;
      heaps = λ u ne. ap or_fresh (alloc_off l t u (asked p l.machine t) ne);
      rows = rows_by G.store G.by;
      store = store_by G.store G.by;
    }

    step_alone : StepsAlone l (task_step p l t) t
    step_alone =
        subst (λ (k : Ledger). StepsAlone l k t) (sym (step_is can x is))
        (subst (λ (m : MachineState). StepsAlone l (record b { machine = m; steps = b.steps + 1 }) t) (sym G.is) alone_then)

  pub private_alone : SoundLedger l → StepsAlone l (task_step p l t) t
  private_alone S = private_alone_by_cases (can_step l.machine t) refl
    where
      private_alone_by_cases : (c : Bool) → can_step l.machine t ≡ c → StepsAlone l (task_step p l t) t
      private_alone_by_cases false e = subst (λ (k : Ledger). StepsAlone l k t) (sym (stays_same e)) (nothing (l.steps + 1))
      private_alone_by_cases true e = let x = task_there e in step_alone S e x.0 x.1

  -- how the account of its heap changes
  pub heap_after : slice_get (task_step p l t).heaps t ≡ cond (can_step l.machine t) (slice_get (allocated_by l t (asked p l.machine t)).heaps t) (slice_get l.heaps t)
  heap_after = heap_after_by_cases (can_step l.machine t) refl
    where
      heap_after_by_cases : (c : Bool) → can_step l.machine t ≡ c → slice_get (task_step p l t).heaps t ≡ cond c (slice_get (allocated_by l t (asked p l.machine t)).heaps t) (slice_get l.heaps t)
      heap_after_by_cases false e = ap (λ (k : Ledger). slice_get k.heaps t) (stays_same e)
      heap_after_by_cases true e = let x = task_there e in ap (λ (k : Ledger). slice_get k.heaps t) (step_is e x.0 x.1)

module _ (p : ProgramText) (l : Ledger) (t : ℕ) (private : is_private p l.machine t ≡ true) where
  -- what it leaves unchanged of the machine, and of the accounts of other heaps
  pub private_limit : (task_step p l t).machine.field_limit ≡ l.machine.field_limit
  private_limit = private_limit_by_cases (can_step l.machine t) refl
    where
      private_limit_by_cases : (c : Bool) → can_step l.machine t ≡ c → (task_step p l t).machine.field_limit ≡ l.machine.field_limit
      private_limit_by_cases false e = ap (λ (k : Ledger). k.machine.field_limit) (stays_same p l t private e)
      private_limit_by_cases true e = let x = task_there p l t private e in ap (λ (m : MachineState). m.field_limit) (task_step_machine p l t ∙ (private_on p l.machine t x.0 e x.1 private).is)

  pub private_end : (task_step p l t).machine.end ≡ l.machine.end
  private_end = private_end_by_cases (can_step l.machine t) refl
    where
      private_end_by_cases : (c : Bool) → can_step l.machine t ≡ c → (task_step p l t).machine.end ≡ l.machine.end
      private_end_by_cases false e = ap (λ (k : Ledger). k.machine.end) (stays_same p l t private e)
      private_end_by_cases true e = let x = task_there p l t private e in ap (λ (m : MachineState). m.end) (task_step_machine p l t ∙ (private_on p l.machine t x.0 e x.1 private).is)

  pub private_off : (u : ℕ) → (u ≡ t → ⊥) → slice_get (task_step p l t).heaps u ≡ slice_get l.heaps u
  private_off u ne = private_off_by_cases (can_step l.machine t) refl
    where
      private_off_by_cases : (c : Bool) → can_step l.machine t ≡ c → slice_get (task_step p l t).heaps u ≡ slice_get l.heaps u
      private_off_by_cases false e = ap (λ (k : Ledger). slice_get k.heaps u) (stays_same p l t private e)
      private_off_by_cases true e = let x = task_there p l t private e in ap (λ (k : Ledger). slice_get k.heaps u) (step_is p l t private e x.0 x.1) ∙ alloc_off l t u (asked p l.machine t) ne

module _ (p : ProgramText) (s : SettingsValue) (t : ℕ) where
  -- it depends on nothing else
  private_same : (l l' : Ledger) → SameOf t l l' → is_private p l.machine t ≡ true → is_private p l'.machine t ≡ true → SameOf t (task_step p l t) (task_step p l' t)
  private_same l l' E private private' = record {
    machine = task_step_machine p l' t ∙ (ap (λ m. step p m t) E.machine ∙ sym (task_step_machine p l t));
    heap =
        heap_after p l' t private'
        ∙ (ap (λ (m : MachineState). cond (can_step m t) (slice_get (allocated_by l' t (asked p m t)).heaps t) (slice_get l'.heaps t)) E.machine
        ∙ (ap₂ (cond (can_step l.machine t)) (alloc_same l l' t E (asked p l.machine t)) E.heap ∙ sym (heap_after p l t private)));
  }

  due_same : (l l' : Ledger) → SameOf t l l' → is_due s p l' t ≡ is_due s p l t
  due_same l l' E = ap₂ (λ (m : MachineState) (h : Option Heap). on_asked (asked p m t) (λ w. nat_le s.leaf (or_fresh h).since)) E.machine E.heap

  need_same : (l l' : Ledger) → SameOf t l l' → is_in_need p l' t ≡ is_in_need p l t
  need_same l l' E = ap₂ (λ (m : MachineState) (h : Option Heap). on_asked (asked p m t) (lacks_room (or_fresh h))) E.machine E.heap

  -- SEVERAL STEPS

  pub steps_alone_all : (k : ℕ) (l : Ledger) → SoundAt t l → ArePrivate p s l t k → StepsAlone l (task_steps p l t k) t
  steps_alone_all zero l S h = machine_alone l l t refl (λ u ne. refl)
  steps_alone_all (suc k) l S h =
      alone_along t l (task_step p l t) (task_steps p (task_step p l t) t k) (private_alone p l t h.2 S.0) (steps_alone_all k (task_step p l t) (task_step_sound p l t S) h.3)

  -- the same steps are private by either account, and have the same result
  pub steps_same : (k : ℕ) (l l' : Ledger) → SameOf t l l' → ArePrivate p s l t k → ArePrivate p s l' t k × SameOf t (task_steps p l t k) (task_steps p l' t k)
  steps_same zero l l' E h = (tt, E)
  steps_same (suc k) l l' E h =
      let private' : is_private p l'.machine t ≡ true = ap (λ m. is_private p m t) E.machine ∙ h.2 in
      let more = steps_same k (task_step p l t) (task_step p l' t) (private_same l l' E h.2 private') h.3 in
      ((due_same l l' E ∙ h.0, need_same l l' E ∙ h.1, private', more.0), more.1)

-- AT REST

pub rested_alone : (l k : Ledger) (t : ℕ) → StepsAlone l k t → StepsAlone l (rested k t) t
rested_alone l k t A = alone_along t l k (rested k t) A (machine_alone k (rested k t) t (heap_machine k t let_go) (λ u ne. ap or_fresh (with_off k t u let_go ne)))

-- from rest
pub rested_back : (l : Ledger) (t : ℕ) → StepsAlone (rested l t) l t
rested_back l t = machine_alone (rested l t) l t (sym (heap_machine l t let_go)) (λ u ne. ap or_fresh (sym (with_off l t u let_go ne)))

-- with the task at rest before it and after it
pub both_rested : (l l' : Ledger) (t : ℕ) → StepsAlone l l' t → StepsAlone (rested l t) (rested l' t) t
both_rested l l' t A = alone_along t (rested l t) l (rested l' t) (rested_back l t) (rested_alone l l' t A)

pub rested_same : (l l' : Ledger) (t : ℕ) → SameOf t l l' → SameOf t (rested l t) (rested l' t)
rested_same l l' t E = record {
  machine = heap_machine l' t let_go ∙ (E.machine ∙ sym (heap_machine l t let_go));
  heap = with_at l' t let_go ∙ (ap (heap_then let_go) E.heap ∙ sym (with_at l t let_go));
}
