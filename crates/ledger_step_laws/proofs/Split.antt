-- An accepted entry of steps consists of private steps and one more of a known kind.
use Rattle.ledger_step_laws.proofs.Common.{◌≡◌, ℕ, zero, suc, ◌+◌, ◌≤◌, ◌||◌, min, nat_le, arith, Bool, true, false, cond, Option, Some, None, List, ◌++◌, length, slice_get, replicate, inl, inr, refl, ap, sym, subst, ◌∙◌, is_none, false≢true, both_ways, and_parts, cond-true, leb-true, min-le_right, Line, ProgramText, IsProgram, Ran, EntryValue, SettingsValue, field_limit, Name, Task, MachineState, row_of, step, can_step, goes_on, is_running, fetched, run, run_from, asked, always_next, runs_is, step_cases, Heap, Ledger, heap_of, let_go, or_fresh, with_allocation, task_step, task_steps, standing, is_due, is_in_need, is_private, most_steps, stepped_to, allocated_in, allocated_by, refusal, kind_refusal, after, is_out, long_at, option_is, ledger_of, is_legal, tasks_of, machine_goes_on, task_steps_booked, none_unless, out_tells, entry_tells, entry_sound, accepted_on, legal_booked, legal_stocked, tasks_are_out_once, placed_worker, machine_is_run, kind_machine, task_step_machine, heap_machine, step_leaves, steps_last, task_steps_sound, collecting, held_is, run_root, run_on, can_going, ArePrivate, rested, StepsAlone, LedgerIsKnown, Leaves, GoesOn, KindTellsPrivate, IdleRest, OnlyAskersReserve, TaskIsAt, IsOfKind, LastKind, Splits, RunsPrivateSteps}
use Rattle.ledger_step_laws.proofs.Ahead.{heap_after, with_at, with_off, heap_then, steps_alone_all}
use Rattle.ledger_step_laws.proofs.Along.{step_knows, steps_know}
use Rattle.ledger_step_laws.proofs.Commute.{alike_self, goes_running, goes_can}
use Rattle.ledger_step_laws.proofs.Known.{legal_knows, run_knows}
use Rattle.ledger_step_laws.proofs.LastStepCases.{last_step}
use Rattle.ledger_step_laws.proofs.Reserved.{booked_askers, private_stand}

-- THE STEPS THAT FIT IN ONE ENTRY

module _ (p : ProgramText) (s : SettingsValue) (t : ℕ) where
  abbrev Stand : Ledger → ℕ → Type 0
  Stand l k = ArePrivate p s l t k × (is_due s p (task_steps p l t k) t ≡ false) × (is_in_need p (task_steps p l t k) t ≡ false)

  off : (l : Ledger) (k : ℕ) → suc k ≤ standing s p l t (suc k) → (is_due s p l t ≡ false) × (is_in_need p l t ≡ false) × (suc k ≤ cond (is_private p l.machine t) (suc (standing s p (task_step p l t) t k)) 1)
  off l k h = off_by_cases (is_due s p l t) (is_in_need p l t) h
    where
      off_by_cases : (d n : Bool) → suc k ≤ cond (d || n) 0 (cond (is_private p l.machine t) (suc (standing s p (task_step p l t) t k)) 1) → (d ≡ false) × (n ≡ false) × (suc k ≤ cond (is_private p l.machine t) (suc (standing s p (task_step p l t) t k)) 1)
      off_by_cases true n h = absurd (omega (arith, h))
      off_by_cases false true h = absurd (omega (arith, h))
      off_by_cases false false h = (refl, refl, h)

  more : (l : Ledger) (k : ℕ) → suc (suc k) ≤ cond (is_private p l.machine t) (suc (standing s p (task_step p l t) t (suc k))) 1 → (is_private p l.machine t ≡ true) × (suc k ≤ standing s p (task_step p l t) t (suc k))
  more l k h = more_by_cases (is_private p l.machine t) h
    where
      more_by_cases : (v : Bool) → suc (suc k) ≤ cond v (suc (standing s p (task_step p l t) t (suc k))) 1 → (v ≡ true) × (suc k ≤ standing s p (task_step p l t) t (suc k))
      more_by_cases false h = absurd (omega (arith, h))
      more_by_cases true h = (refl, omega (arith, h))

  stands : (k : ℕ) (l : Ledger) → suc k ≤ standing s p l t (suc k) → Stand l k
  stands zero l h = let r = off l zero h in (tt, r.0, r.1)
  stands (suc k) l h =
      let r = off l (suc k) h in
      let n = more l k r.2 in
      let d = stands k (task_step p l t) n.1 in
      ((r.0, r.1, n.0, d.0), d.1, d.2)

  -- a private step keeps the task's worker
  pub worker_step : (l : Ledger) → is_private p l.machine t ≡ true → (heap_of (task_step p l t) t).worker ≡ (heap_of l t).worker
  worker_step l h = ap (λ o. (or_fresh o).worker) (heap_after p l t h) ∙ worker_step_by_cases (can_step l.machine t) (asked p l.machine t)
    where
      worker_step_by_cases : (b : Bool) (o : Option ℕ) → (or_fresh (cond b (slice_get (allocated_by l t o).heaps t) (slice_get l.heaps t))).worker ≡ (heap_of l t).worker
      worker_step_by_cases false o = refl
      worker_step_by_cases true None = refl
      worker_step_by_cases true (Some w) =
          let n : Name = record { task = t; count = length (row_of (slice_get l.machine.store t)) } in
          ap (λ o. (or_fresh o).worker) (with_at l t (λ z. with_allocation z n w)) ∙ heap (slice_get l.heaps t) n w
        where
          heap : (o : Option Heap) (n : Name) (w : ℕ) → (or_fresh (heap_then (λ z. with_allocation z n w) o)).worker ≡ (or_fresh o).worker
          heap None n w = refl
          heap (Some z) n w = placed_worker z n w

  pub steps_worker : (k : ℕ) (l : Ledger) → ArePrivate p s l t k → (heap_of (task_steps p l t k) t).worker ≡ (heap_of l t).worker
  steps_worker zero l h = refl
  steps_worker (suc k) l h = steps_worker k (task_step p l t) h.3 ∙ worker_step l h.2

  -- and the task runs on
  pub steps_go : (k : ℕ) (l : Ledger) (x : Task) → LedgerIsKnown l → collecting (slice_get l.heaps t) ≡ false → slice_get l.machine.tasks t ≡ Some x → is_running (Some x) ≡ true → can_step l.machine t ≡ true → ArePrivate p s l t k
      → (y : Task) × (slice_get (task_steps p l t k).machine.tasks t ≡ Some y) × (is_running (Some y) ≡ true) × (can_step (task_steps p l t k).machine t ≡ true)
  steps_go zero l x K c is run can h = (x, is, run, can)
  steps_go (suc k) l x K c is run can h =
      let a = step_knows p s t l x K c is run can h.2 in
      let g = goes_running l l t x K K (alike_self t l) is run p can h.2 in
      steps_go k (task_step p l t) g.0 a.0 a.1 g.1 g.2 (goes_can l l t x K K (alike_self t l) is run p can h.2) h.3

-- no worker holds a task that doesn't run, also after t has stepped alone
pub idle_alone : (l k : Ledger) (t : ℕ) (y : Task) → IdleRest l → StepsAlone l k t → slice_get k.machine.tasks t ≡ Some y → is_running (Some y) ≡ true → IdleRest k
idle_alone l k t y H A is run u h =
    let ne : u ≡ t → ⊥ = λ e. both_ways (is_running (slice_get k.machine.tasks u)) h (ap (λ j. is_running (slice_get k.machine.tasks j)) e ∙ (ap is_running is ∙ run)) in
    ap (λ (z : Heap). z.worker) (A.heaps u ne) ∙ H u (ap is_running (sym (A.tasks u ne)) ∙ h)

-- if the accounts of a legal journal haven't ended, neither has the machine
pub legal_alive : (p : ProgramText) (s : SettingsValue) (journal : List EntryValue) → is_legal p s journal ≡ true → (ledger_of p s journal).end ≡ None → (ledger_of p s journal).machine.end ≡ None
legal_alive p s journal legal = machine_goes_on p s journal

-- THE LAW

pub legal_idle : (p : ProgramText) (s : SettingsValue) (journal : List EntryValue) → is_legal p s journal ≡ true → (ledger_of p s journal).end ≡ None → IdleRest (ledger_of p s journal)
legal_idle p s journal legal on u h = legal_idle_by_cases (heap_of (ledger_of p s journal) u).worker refl
  where
    legal_idle_by_cases : (o : Option ℕ) → (heap_of (ledger_of p s journal) u).worker ≡ o → o ≡ None
    legal_idle_by_cases None e = refl
    legal_idle_by_cases (Some w) e = absurd (both_ways (is_running (slice_get (ledger_of p s journal).machine.tasks u)) h ((tasks_are_out_once p s journal legal).runs on u w e))

module _ (p : ProgramText) (s : SettingsValue) (journal : List EntryValue) (w t k : ℕ) (I : IsProgram p) (legal : is_legal p s journal ≡ true) (accepted : refusal p s (ledger_of p s journal) (record { worker = w; kind = Ran t (suc k) }) ≡ None) where
  abbrev l : Ledger
  l = ledger_of p s journal

  abbrev lj : Ledger
  lj = task_steps p l t k

  on : l.end ≡ None
  on = accepted_on p s l (record { worker = w; kind = Ran t (suc k) }) accepted

  allowed : is_none (kind_refusal p s l w (Ran t (suc k))) ≡ true
  allowed = (entry_tells p s l (record { worker = w; kind = Ran t (suc k) }) (ap is_none accepted)).2

  out : (is_running (slice_get l.machine.tasks t) ≡ true) × (collecting (slice_get l.heaps t) ≡ false) × (is_none (long_at (suc k) (min most_steps (standing s p l t (suc k)))) ≡ true)
  out = out_tells l w t _ allowed

  pub holds : (heap_of l t).worker ≡ Some w
  holds = held_is (heap_of l t).worker w (and_parts (is_running (slice_get l.machine.tasks t)) (option_is (heap_of l t).worker w) (none_unless (is_out l w t) _ _ allowed).0).1

  fits_one : suc k ≤ standing s p l t (suc k)
  fits_one =
      let h : nat_le (suc k) (min most_steps (standing s p l t (suc k))) ≡ true = (none_unless (nat_le (suc k) (min most_steps (standing s p l t (suc k)))) _ _ out.2).0 in
      le_min (suc k) most_steps (standing s p l t (suc k)) h
    where
      le_min : (a b c : ℕ) → nat_le a (min b c) ≡ true → a ≤ c
      le_min a b c h = let q : a ≤ min b c = leb-true a (min b c) h in let r : min b c ≤ c = min-le_right b c in omega (arith, q, r)

  pub stand : ArePrivate p s l t k × (is_due s p lj t ≡ false) × (is_in_need p lj t ≡ false)
  stand = stands p s t k l fits_one

  K : LedgerIsKnown l
  K = legal_knows p s journal legal

  task_there : (x : Task) × (slice_get l.machine.tasks t ≡ Some x) × (is_running (Some x) ≡ true)
  task_there = task_there_by_cases (slice_get l.machine.tasks t) refl out.0
    where
      task_there_by_cases : (o : Option Task) → slice_get l.machine.tasks t ≡ o → is_running o ≡ true → (x : Task) × (slice_get l.machine.tasks t ≡ Some x) × (is_running (Some x) ≡ true)
      task_there_by_cases None e h = absurd (false≢true h)
      task_there_by_cases (Some x) e h = (x, e, h)

  can : can_step l.machine t ≡ true
  can = ap (λ o. goes_on o (is_running (slice_get l.machine.tasks t))) (legal_alive p s journal legal on) ∙ out.0

  pub goes : (y : Task) × (slice_get lj.machine.tasks t ≡ Some y) × (is_running (Some y) ≡ true) × (can_step lj.machine t ≡ true)
  goes = steps_go p s t k l task_there.0 K out.1 task_there.1 task_there.2 can stand.0

  pub knows : LedgerIsKnown lj
  knows = steps_know p s t k l task_there.0 K (inr out.1) task_there.1 task_there.2 can stand.0

  pub idle : IdleRest lj
  idle = idle_alone l lj t goes.0 (legal_idle p s journal legal on) (steps_alone_all p s t k l (K.sound, out.1) stand.0) goes.1 goes.2

  spare : OnlyAskersReserve p lj
  spare = booked_askers p s lj (task_steps_booked p s k l t (K.sound, out.1) (legal_stocked p s journal legal) (legal_booked p s journal legal) (private_stand p s t k l stand.0))

  -- there is a next instruction
  machine_run : lj.machine ≡ run p (field_limit s.version) (tasks_of journal ++ replicate k t)
  machine_run =
      kind_machine p s l w (Ran t k)
      ∙ (ap (λ m. run_from p m (replicate k t)) (machine_is_run p s journal) ∙ sym (run_on p (tasks_of journal) (replicate k t) _))

  next : (line : Line) × (fetched p goes.0.top ≡ Some line)
  next = always_next p (field_limit s.version) (tasks_of journal ++ replicate k t) t goes.0 goes.0.top I (ap (λ (m : MachineState). slice_get m.tasks t) (sym machine_run) ∙ goes.1) (0, omega arith, refl)

  task_is_at : TaskIsAt p lj t goes.0 next.0
  task_is_at = record { task = goes.1; runs = runs_is goes.0.status goes.2; next = next.1 }

  known : (kind : LastKind) × IsOfKind p lj (after p s l (record { worker = w; kind = Ran t (suc k) })) t goes.0 next.0 kind × (GoesOn kind → (after p s l (record { worker = w; kind = Ran t (suc k) })).machine.end ≡ None) × KindTellsPrivate p lj t kind
  known = subst (λ (z : Ledger). (kind : LastKind) × IsOfKind p lj z t goes.0 next.0 kind × (GoesOn kind → z.machine.end ≡ None) × KindTellsPrivate p lj t kind) (sym (steps_last p l t k)) (last_step p lj t goes.0 next.0 knows idle spare goes.3 task_is_at)

  pub split : Splits p s l (after p s l (record { worker = w; kind = Ran t (suc k) })) t k
  split = record {
    private = stand.0;
    due = stand.1;
    need = stand.2;
    task = goes.0;
    line = next.0;
    at = task_is_at;
    after = steps_last p l t k;
    kind = known.0;
    last = known.1;
    apart = known.3;
    on = known.2;
  }

  -- what the last step leaves unchanged of another running task
  still : collecting (slice_get lj.heaps t) ≡ false
  still = (task_steps_sound p k l t (K.sound, out.1)).1

  pub leaves : (u : ℕ) → (u ≡ t → ⊥) → is_running (slice_get l.machine.tasks u) ≡ true → (after p s l (record { worker = w; kind = Ran t (suc k) })).machine.end ≡ None → Leaves u (rested lj t) (after p s l (record { worker = w; kind = Ran t (suc k) }))
  leaves u ne runs_u end =
      let e : after p s l (record { worker = w; kind = Ran t (suc k) }) ≡ task_step p lj t = steps_last p l t k in
      let stepped : task_step p lj t ≡ stepped_to (allocated_in p lj t) t (step p lj.machine t) = cond-true (can_step lj.machine t) _ (record lj { steps = lj.steps + 1 }) goes.3 in
      let A : StepsAlone l lj t = steps_alone_all p s t k l (K.sound, out.1) stand.0 in
      record {
        limit = ap (λ (z : Ledger). z.machine.field_limit) e ∙ (ap (λ (m : MachineState). m.field_limit) (task_step_machine p lj t) ∙ (limit lj.machine ∙ ap (λ (m : MachineState). m.field_limit) (sym (heap_machine lj t let_go))));
        end = end ∙ (sym (can_going lj.machine t goes.3) ∙ ap (λ (m : MachineState). m.end) (sym (heap_machine lj t let_go)));
        heap =
            ap (λ (z : Ledger). slice_get z.heaps u) (e ∙ stepped)
            ∙ ((step_leaves p lj t (knows.sound, still) goes.3).4 u ne (inl (ap is_running (A.tasks u ne) ∙ runs_u)) ∙ sym (with_off lj t u let_go ne));
      }
    where
      limit : (m : MachineState) → (step p lj.machine t).field_limit ≡ lj.machine.field_limit
      limit m = step_cases p lj.machine t knows.sound.fork_join (λ m. m.field_limit ≡ lj.machine.field_limit) refl (λ x e i r h. refl) (λ x y store outs i r a b c d e f g h. refl) (λ x o e i r a b c. refl) (λ x g h i r a b. refl)
          (λ o c xp xl xr rl rr a b d e f g h i j k' n q. refl)

  pub split_leaves : ((heap_of lj t).worker ≡ Some w) × (can_step lj.machine t ≡ true) × LedgerIsKnown lj × IdleRest lj
      × ((u : ℕ) → (u ≡ t → ⊥) → is_running (slice_get l.machine.tasks u) ≡ true → (after p s l (record { worker = w; kind = Ran t (suc k) })).machine.end ≡ None → Leaves u (rested lj t) (after p s l (record { worker = w; kind = Ran t (suc k) })))
  split_leaves = (steps_worker p s t k l stand.0 ∙ holds, goes.3, knows, idle, leaves)

  pub entry_runs : RunsPrivateSteps p s l (after p s l (record { worker = w; kind = Ran t (suc k) })) t w k
  entry_runs = record {
    knows = K;
    knows_then = run_knows p (field_limit s.version) (tasks_of journal ++ replicate (suc k) t) (after p s l (record { worker = w; kind = Ran t (suc k) }))
        (entry_sound p s l (record { worker = w; kind = Ran t (suc k) }) K.sound (ap is_none accepted))
        (kind_machine p s l w (Ran t (suc k)) ∙ (ap (λ m. run_from p m (replicate (suc k) t)) (machine_is_run p s journal) ∙ sym (run_on p (tasks_of journal) (replicate (suc k) t) _)));
    task = task_there.0;
    at = task_there.1;
    runs = task_there.2;
    can = can;
    collects = out.1;
    splits = split;
    out = steps_worker p s t k l stand.0 ∙ holds;
    idle = idle;
    root = subst (λ (m : MachineState). (u : ℕ) (x : Task) → slice_get m.tasks u ≡ Some x → x.parent ≡ None → u ≡ 0) (sym machine_run) (run_root p (field_limit s.version) (tasks_of journal ++ replicate k t));
    leaves = leaves;
  }
