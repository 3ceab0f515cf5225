-- What an entry of one worker leaves unchanged of what another worker holds.
use Rattle.run_ledger.proofs.Common.{◌≡◌, ℕ, zero, suc, ◌+◌, Bool, true, false, cond, Option, Some, None, ◌∷◌, slice_get, nat_lt, inl, refl, ap, sym, subst, ◌∙◌, is_none, slice_set, inr, eq-eqb, false≢true, and_parts, eqb-true, cases_eq, same_Some, got_other, got_same, none_is, none_of, none_some, Kind, Took, Ran, Chunk, Begin, End as EndOf, PutOff, Mark, More, Sweep, Fuel, SettingsValue, ProgramText, MachineState, step, can_step, asked, is_running, waiting, option_is, LeavesOwner, leaves_owner, same_owner, Heap, Ledger, Pool, heap_of, or_fresh, with_heap, in_use, allocated_in, stepped_to, task_step, task_steps, refusal, kind_refusal, after_kind, after, is_out, is_ready, with_chunk, chunk_units, opening, ledger_of, is_legal_from, EntriesLeaveOthers}
use Rattle.run_ledger.proofs.Machine.{stepped_machine}
use Rattle.run_ledger.proofs.Sound.{SoundLedger}
use Rattle.run_ledger.proofs.Steps.{SoundAt, step_leaves, task_step_sound}
use Rattle.run_ledger.proofs.Booked.{wait_run}
use Rattle.run_ledger.proofs.Stocks.{with_heap_any}
use Rattle.run_ledger.proofs.Cuts.{cut_legal}
use Rattle.run_ledger.proofs.Holders.{tasks_are_out_once}
use Rattle.run_ledger.proofs.Journals.{none_unless, out_tells, wait_tells, entry_tells, legal_sound}

-- the task u is unchanged, with what it owns, and the account of its heap
abbrev Left : ℕ → Ledger → Ledger → Type 0
Left u l k = LeavesOwner l.machine k.machine u × (slice_get k.heaps u ≡ slice_get l.heaps u)

both_owner : (m m' m'' : MachineState) (u : ℕ) → LeavesOwner m m' u → LeavesOwner m' m'' u → LeavesOwner m m'' u
both_owner m m' m'' u A B = record {
  task = B.task ∙ A.task;
  owned = λ a. (let x = A.owned a in let y = B.owned a in ((λ q. x.0 (y.0 q)), (λ q. y.1 (x.1 q))));
  objects = λ n own. B.objects n ((A.owned n.task).1 own) ∙ A.objects n own;
}

left_heap : (l : Ledger) (t u : ℕ) (f : Heap → Heap) → (u ≡ t → ⊥) → Left u l (with_heap l t f)
left_heap l t u f ne = with_heap_any (Left u l) l t f (same_owner l.machine u, refl) (λ h e. (same_owner l.machine u, got_other l.heaps t u (f h) ne))

pub left_step : (p : ProgramText) (l : Ledger) (t u : ℕ) → SoundAt t l → (u ≡ t → ⊥) → is_running (slice_get l.machine.tasks u) ≡ true → Left u l (task_step p l t)
left_step p l t u S ne run = left_step_by_cases (can_step l.machine t) refl
  where
    left_step_by_cases : (v : Bool) → can_step l.machine t ≡ v → Left u l (cond v (stepped_to (allocated_in p l t) t (step p l.machine t)) (record l { steps = l.steps + 1 }))
    left_step_by_cases false e = (same_owner l.machine u, refl)
    left_step_by_cases true e = (
      subst (λ m. LeavesOwner l.machine m u) (sym (stepped_machine (allocated_in p l t) t (step p l.machine t))) (leaves_owner p l.machine t S.0.fork_join S.0.apart u ne run),
      (step_leaves p l t S e).4 u ne (inl run),
    )

left_steps : (p : ProgramText) (k : ℕ) (l : Ledger) (t u : ℕ) → SoundAt t l → (u ≡ t → ⊥) → is_running (slice_get l.machine.tasks u) ≡ true → Left u l (task_steps p l t k)
left_steps p zero l t u S ne run = (same_owner l.machine u, refl)
left_steps p (suc k) l t u S ne run =
    let now = left_step p l t u S ne run in
    let later = left_steps p k (task_step p l t) t u (task_step_sound p l t S) ne (ap is_running (now.0).task ∙ run) in
    (both_owner l.machine (task_step p l t).machine (task_steps p (task_step p l t) t k).machine u now.0 later.0, later.1 ∙ now.1)

left_chunk : (l : Ledger) (t u : ℕ) (next : Option ℕ) (full : Bool) → (u ≡ t → ⊥) → Left u l (cond full (record l { end = Some (Pool (in_use l)) }) (with_heap l t (with_chunk next)))
left_chunk l t u next true ne = (same_owner l.machine u, refl)
left_chunk l t u next false ne = left_heap l t u (with_chunk next) ne

pub held_is : (o : Option ℕ) (w : ℕ) → option_is o w ≡ true → o ≡ Some w
held_is None w h = absurd (false≢true h)
held_is (Some v) w h = ap Some (eqb-true v w h)

pub is_held : (o : Option ℕ) (w : ℕ) → o ≡ Some w → option_is o w ≡ true
is_held o w e = ap (λ q. option_is q w) e ∙ eq-eqb w w refl

-- what a change keeps of a heap
pub heap_view : {A : Type 0} (view : Heap → A) (l : Ledger) (u : ℕ) (f : Heap → Heap) → ((h : Heap) → view (f h) ≡ view h) → (t : ℕ) → view (heap_of (with_heap l u f) t) ≡ view (heap_of l t)
heap_view view l u f same t = with_heap_any (λ k. view (heap_of k t) ≡ view (heap_of l t)) l u f refl (λ h e. elim (cases_eq t u) [
  | inl q ↦
      ap (λ v. view (or_fresh (slice_get (slice_set l.heaps u (f h)) v))) q
      ∙ (ap (λ o. view (or_fresh o)) (got_same l.heaps u h (f h) e) ∙ (same h ∙ (ap (λ o. view (or_fresh o)) (sym e) ∙ ap (λ v. view (or_fresh (slice_get l.heaps v))) (sym q))))
  | inr ne ↦ ap (λ o. view (or_fresh o)) (got_other l.heaps u t (f h) ne)
])

pub heap_off : (l : Ledger) (u : ℕ) (f : Heap → Heap) (t : ℕ) → (t ≡ u → ⊥) → heap_of (with_heap l u f) t ≡ heap_of l t
heap_off l u f t ne = with_heap_any (λ k. heap_of k t ≡ heap_of l t) l u f refl (λ h e. ap or_fresh (got_other l.heaps u t (f h) ne))

module _ (p : ProgramText) (s : SettingsValue) (l : Ledger) (w u v : ℕ) (S : SoundLedger l) (other : v ≡ w → ⊥) (held : (heap_of l u).worker ≡ Some v) (run : is_running (slice_get l.machine.tasks u) ≡ true) where
  -- a task that the worker holds is another one
  not_out : (t : ℕ) → is_out l w t ≡ true → u ≡ t → ⊥
  not_out t h e =
      let mine : (heap_of l t).worker ≡ Some w = held_is (heap_of l t).worker w (and_parts (is_running (slice_get l.machine.tasks t)) (option_is (heap_of l t).worker w) h).1 in
      other (same_Some v w (sym held ∙ (ap (λ x. (heap_of l x).worker) e ∙ mine)))

  -- so is one that nobody holds, and one that waits
  not_ready : (t : ℕ) → is_ready l t ≡ true → u ≡ t → ⊥
  not_ready t h e = none_some (sym (none_is (heap_of l t).worker (and_parts (is_running (slice_get l.machine.tasks t)) (is_none (heap_of l t).worker) h).1) ∙ (ap (λ x. (heap_of l x).worker) (sym e) ∙ held))

  not_waiting_one : (t : ℕ) → waiting l.machine.tasks t ≡ true → u ≡ t → ⊥
  not_waiting_one t h e = wait_run l.machine u (ap (waiting l.machine.tasks) e ∙ h) run

  left_kind : (kind : Kind) → is_none (kind_refusal p s l w kind) ≡ true → Left u l (after_kind p s l w kind)
  left_kind (Took t) h = left_heap l t u _ (not_ready t (none_unless (is_ready l t) _ _ h).0)
  left_kind (Ran t k) h = left_steps p k l t u (S, (out_tells l w t _ h).1) (not_out t (none_unless (is_out l w t) _ _ h).0) run
  left_kind (Chunk t) h = left_chunk l t u (asked p l.machine t) (nat_lt s.chunks (in_use l + chunk_units (asked p l.machine t))) (not_out t (none_unless (is_out l w t) _ _ h).0)
  left_kind (Begin t) h = left_heap l t u _ (not_out t (none_unless (is_out l w t) _ _ h).0)
  left_kind (EndOf t a g n) h = left_heap l t u _ (not_out t (none_unless (is_out l w t) _ _ h).0)
  left_kind (PutOff t) h = left_heap l t u _ (not_out t (none_unless (is_out l w t) _ _ h).0)
  left_kind (Mark t) h = left_heap l t u _ (not_waiting_one t (wait_tells l t _ h).0)
  left_kind (More t n) h = left_heap l t u _ (not_waiting_one t (wait_tells l t _ h).0)
  left_kind (Sweep t g) h = left_heap l t u _ (not_waiting_one t (wait_tells l t _ h).0)
  left_kind Fuel h = (same_owner l.machine u, refl)

pub entries_leave_others : EntriesLeaveOthers
entries_leave_others p s before rest e u v legal held other =
    let l : Ledger = ledger_of p s before in
    let c = cut_legal p s before (e ∷ rest) (opening p s) legal in
    let now = (and_parts (is_none (refusal p s l e)) (is_legal_from p s (after p s l e) rest) c.1).0 in
    let tells = entry_tells p s l e now in
    let run = (tasks_are_out_once p s before c.0).runs (none_of l.end tells.0) u v held in
    let q = left_kind p s l e.worker u v (legal_sound p s before c.0) other held run e.kind tells.2 in
    record { owner = q.0; heap = ap or_fresh q.1 }
