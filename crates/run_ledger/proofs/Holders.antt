-- Which worker holds which task.
use Rattle.run_ledger.proofs.Common.{◌≡◌, ℕ, zero, suc, ◌+◌, ◌-◌, Bool, true, false, cond, Option, Some, None, List, [], ◌∷◌, ◌++◌, slice_get, slice_set, nat_lt, inl, inr, refl, ap, sym, subst, ◌∙◌, is_some, is_none, eq-eqb, false≢true, both_ways, cases_eq, and_parts, got_same, got_other, none_some, Kind, Took, Ran, Chunk, Begin, End as EndOf, PutOff, Mark, More, Sweep, Fuel, SettingsValue, ProgramText, Name, TaskStatus, Running, Waiting, Ended, Joined, Task, MachineState, step, can_step, asked, is_running, is_left, next_name, option_is, Heap, Ledger, RunEnd, Pool, heap_at, heap_of, or_fresh, with_heap, with_heap_at, with_allocation, is_small_size, fresh, forked_heap, emptied, let_go, within, in_use, collected, swept_heap, put_last, chunk_words, allocated_by, allocated_in, settled, moved_on, moved_to, join_heaps, stepped_to, task_step, task_steps, on_asked, kind_refusal, after_kind, is_ready, is_out, out_from, refused_holding, with_chunk, chunk_units, opening, ledger_of, TasksAreOutOnce}
use Rattle.path_laws.specs.below.hh_model.{End}
use Rattle.run_ledger.proofs.Machine.{stepped_machine}
use Rattle.run_ledger.proofs.Sound.{SoundLedger, collecting}
use Rattle.run_ledger.proofs.Moves.{moves_each}
use Rattle.run_ledger.proofs.Steps.{SoundAt, StepLeaves, step_leaves, heap_of_task, can_tells, step_keeps, steps_keep, worker_at}
use Rattle.run_ledger.proofs.Booked.{step_others}
use Rattle.run_ledger.proofs.Stocks.{with_heap_any}
use Rattle.run_ledger.proofs.Journals.{journal_keeps, none_unless, out_tells, opening_sound, legal_sound, fresh_idle}

-- AT THE END OF THE LEDGER

pub heap_at_end : (l : Ledger) (t : ℕ) (f : Heap → Heap) (o : Option Heap) → (with_heap_at l t f o).end ≡ l.end
heap_at_end l t f None = refl
heap_at_end l t f (Some h) = refl

pub heap_end : (l : Ledger) (t : ℕ) (f : Heap → Heap) → (with_heap l t f).end ≡ l.end
heap_end l t f = heap_at_end l t f (heap_at l t)

pub join_end : (l : Ledger) (p c : ℕ) → (join_heaps l p c).end ≡ l.end
join_end l p c = heap_end _ (c + 1) emptied ∙ (heap_end _ c emptied ∙ heap_end l p _)

pub moved_on_end : (l : Ledger) (t : ℕ) (parent : Option ℕ) (s : TaskStatus) → (moved_on l t parent s).end ≡ l.end
moved_on_end l t parent Running = refl
moved_on_end l t parent Waiting = heap_end (record l { heaps = l.heaps ++ fresh ∷ fresh ∷ [] }) t (forked_heap (within l t))
moved_on_end l t parent (Ended k n) = heap_end l t let_go
moved_on_end l t None Joined = refl
moved_on_end l t (Some p) Joined = join_end l p (cond (is_left t) t _)

pub moved_to_end : (l : Ledger) (t : ℕ) (o : Option Task) → (moved_to l t o).end ≡ l.end
moved_to_end l t None = refl
moved_to_end l t (Some x) = moved_on_end l t x.parent x.status

settled_end : (l : Ledger) (t : ℕ) (o : Option End) → (settled l t o).end ≡ None → (o ≡ None) × (l.end ≡ None)
settled_end l t (Some e) h = absurd cc
settled_end l t None h = (refl, sym (moved_to_end l t (slice_get l.machine.tasks t)) ∙ h)

pub allocated_end : (l : Ledger) (t : ℕ) (o : Option ℕ) → (allocated_by l t o).end ≡ l.end
allocated_end l t None = refl
allocated_end l t (Some w) = heap_end l t _

-- INVARIANTS OF LEGAL JOURNALS

pub record Manned (m : MachineState) (end : Option RunEnd) (heaps : List Heap) : Type 0 where
  pub runs : end ≡ None → (u w : ℕ) → worker_at (slice_get heaps u) ≡ Some w → is_running (slice_get m.tasks u) ≡ true
  pub one : (u v w : ℕ) → worker_at (slice_get heaps u) ≡ Some w → worker_at (slice_get heaps v) ≡ Some w → u ≡ v
  pub out : (u : ℕ) → collecting (slice_get heaps u) ≡ true → is_some (worker_at (slice_get heaps u)) ≡ true

abbrev pub MannedLedger : Ledger → Type 0
MannedLedger l = Manned l.machine l.end l.heaps

-- a heap's account changes, but not its worker and its begun collection
same_manned : (l : Ledger) (t : ℕ) (f : Heap → Heap) → ((h : Heap) → (f h).worker ≡ h.worker) → ((h : Heap) → slice_get l.heaps t ≡ Some h → is_some (f h).begun ≡ true → is_some h.worker ≡ true) → MannedLedger l → MannedLedger (with_heap l t f)
same_manned l t f same goes I = with_heap_any MannedLedger l t f I (λ h e.
    let heaps' : List Heap = slice_set l.heaps t (f h) in
    let at : (u : ℕ) → worker_at (slice_get heaps' u) ≡ worker_at (slice_get l.heaps u) = λ u. elim (cases_eq u t) [
      | inl q ↦ ap (λ v. worker_at (slice_get heaps' v)) q ∙ (ap worker_at (got_same l.heaps t h (f h) e) ∙ (same h ∙ (sym (ap worker_at e) ∙ ap (λ v. worker_at (slice_get l.heaps v)) (sym q))))
      | inr ne ↦ ap worker_at (got_other l.heaps t u (f h) ne)
    ] in
    record {
      runs = λ on u w q. I.runs on u w (sym (at u) ∙ q);
      one = λ u v w q r. I.one u v w (sym (at u) ∙ q) (sym (at v) ∙ r);
      out = λ u c. ap is_some (at u) ∙ elim (cases_eq u t) [
        | inl q ↦
            ap (λ v. is_some (worker_at (slice_get l.heaps v))) q
            ∙ (ap (λ o. is_some (worker_at o)) e ∙ goes h e (sym (ap collecting (got_same l.heaps t h (f h) e)) ∙ (ap (λ v. collecting (slice_get heaps' v)) (sym q) ∙ c)))
        | inr ne ↦ I.out u (sym (ap collecting (got_other l.heaps t u (f h) ne)) ∙ c)
      ];
    })

-- if no collection begins
still : (l : Ledger) (t : ℕ) (I : MannedLedger l) (h : Heap) → slice_get l.heaps t ≡ Some h → is_some h.begun ≡ true → is_some h.worker ≡ true
still l t I h e c = sym (ap (λ o. is_some (worker_at o)) e) ∙ I.out t (ap collecting e ∙ c)

-- A STEP

-- the worker of a heap stays when an object is placed in it
pub placed_worker : (h : Heap) (n : Name) (w : ℕ) → (with_allocation h n w).worker ≡ h.worker
placed_worker h n w = placed_worker_by_cases (is_small_size w)
  where
    placed_worker_by_cases : (v : Bool) → (cond v (record h { chunks = put_last h.chunks n; room = h.room - w; since = h.since + w }) (record h { large = h.large ++ n ∷ []; reserved = 0; since = h.since + w })).worker ≡ h.worker
    placed_worker_by_cases true = refl
    placed_worker_by_cases false = refl

module _ (p : ProgramText) (l : Ledger) (t : ℕ) (S : SoundAt t l) (I : MannedLedger l) (can : can_step l.machine t ≡ true) where
  abbrev b : Ledger
  b = allocated_in p l t

  abbrev k : Ledger
  k = stepped_to (allocated_in p l t) t (step p l.machine t)

  abbrev leaves : StepLeaves t l b k
  leaves = step_leaves p l t S can

  abbrev heap : (h : Heap) × (slice_get l.heaps t ≡ Some h)
  heap = heap_of_task l t S.0 (can_tells l.machine t can).1

  worker_b : (o : Option ℕ) (u : ℕ) → worker_at (slice_get (allocated_by l t o).heaps u) ≡ worker_at (slice_get l.heaps u)
  worker_b None u = refl
  worker_b (Some w) u =
      let h1 : Heap = with_allocation heap.0 (next_name t l.machine.store) w in
      ap (λ (q : Ledger). worker_at (slice_get q.heaps u)) (ap (with_heap_at l t (λ g. with_allocation g (next_name t l.machine.store) w)) heap.1)
      ∙ elim (cases_eq u t) [
        | inl q ↦
            ap (λ v. worker_at (slice_get (slice_set l.heaps t h1) v)) q
            ∙ (ap worker_at (got_same l.heaps t heap.0 h1 heap.1) ∙ (placed_worker heap.0 (next_name t l.machine.store) w ∙ (sym (ap worker_at heap.1) ∙ ap (λ v. worker_at (slice_get l.heaps v)) (sym q))))
        | inr ne ↦ ap worker_at (got_other l.heaps t u h1 ne)
      ]

  collecting_b : (o : Option ℕ) (u : ℕ) → (u ≡ t → ⊥) → collecting (slice_get (allocated_by l t o).heaps u) ≡ collecting (slice_get l.heaps u)
  collecting_b None u ne = refl
  collecting_b (Some w) u ne =
      ap (λ (q : Ledger). collecting (slice_get q.heaps u)) (ap (with_heap_at l t (λ g. with_allocation g (next_name t l.machine.store) w)) heap.1)
      ∙ ap collecting (got_other l.heaps t u (with_allocation heap.0 (next_name t l.machine.store) w) ne)

  -- whoever holds a task after the step held it before
  abbrev Was : ℕ → Heap → Type 0
  Was u h = (w : ℕ) → h.worker ≡ Some w → worker_at (slice_get b.heaps u) ≡ Some w

  was_k : (u : ℕ) (h : Heap) → slice_get k.heaps u ≡ Some h → Was u h
  was_k =
      moves_each Was t l.machine.tasks b.heaps k.heaps leaves.2 (λ u h e w q. ap worker_at e ∙ q) (λ h q w e. none_some e) (λ u w e. none_some e) (λ ns h q w e. none_some e)
      (λ u h x y v z is wait none q qx qy w e. ap worker_at is ∙ e) (λ u h none q w e. none_some e)

  was : (u w : ℕ) → worker_at (slice_get k.heaps u) ≡ Some w → worker_at (slice_get l.heaps u) ≡ Some w
  was u w q = sym (worker_b (asked p l.machine t) u) ∙ was_by_cases (slice_get k.heaps u) refl q
    where
      was_by_cases : (o : Option Heap) → slice_get k.heaps u ≡ o → worker_at o ≡ Some w → worker_at (slice_get b.heaps u) ≡ Some w
      was_by_cases None e r = none_some r
      was_by_cases (Some h) e r = was_k u h e w r

  -- a leaf collection goes on only in a task that a worker held before
  abbrev Goes : ℕ → Heap → Type 0
  Goes u h = (u ≡ t → ⊥) → is_some h.begun ≡ true → is_some h.worker ≡ true

  goes_b : (u : ℕ) (h : Heap) → slice_get b.heaps u ≡ Some h → Goes u h
  goes_b u h e ne c =
      let was_collecting : collecting (slice_get l.heaps u) ≡ true = sym (collecting_b (asked p l.machine t) u ne) ∙ (ap collecting e ∙ c) in
      sym (ap (λ o. is_some (worker_at o)) e) ∙ (ap is_some (worker_b (asked p l.machine t) u) ∙ I.out u was_collecting)

  goes_k : (u : ℕ) (h : Heap) → slice_get k.heaps u ≡ Some h → Goes u h
  goes_k =
      moves_each Goes t l.machine.tasks b.heaps k.heaps leaves.2 goes_b (λ h q ne c. absurd (ne refl)) (λ u ne c. absurd (false≢true c)) (λ ns h q ne c. absurd (ne refl))
      (λ u h x y v z is wait none q qx qy ne c. absurd (both_ways (is_some h.begun) none c)) (λ u h none q ne c. absurd (both_ways (is_some h.begun) none c))

  abbrev machine_is : k.machine ≡ step p l.machine t
  machine_is = stepped_machine b t (step p l.machine t)

  runs_k : k.end ≡ None → (u w : ℕ) → worker_at (slice_get k.heaps u) ≡ Some w → is_running (slice_get k.machine.tasks u) ≡ true
  runs_k on u w q = elim (cases_eq u t) [
    | inl e ↦ elim leaves.3 [
      | inl over ↦ absurd (false≢true (sym (ap is_some (ap (λ (m : MachineState). m.end) machine_is ∙ ends.0)) ∙ over))
      | inr more ↦ elim more [
        | inl r ↦ ap (λ v. is_running (slice_get k.machine.tasks v)) e ∙ r
        | inr none ↦ none_some (sym none ∙ (ap (λ v. worker_at (slice_get k.heaps v)) (sym e) ∙ q))
      ]
    ]
    | inr ne ↦
        let before : is_running (slice_get l.machine.tasks u) ≡ true = I.runs (sym (allocated_end l t (asked p l.machine t)) ∙ ends.1) u w (was u w q) in
        ap (λ (m : MachineState). is_running (slice_get m.tasks u)) machine_is ∙ (ap is_running (step_others p l.machine t u S.0.fork_join ne before) ∙ before)
  ]
    where
      ends : ((step p l.machine t).end ≡ None) × (b.end ≡ None)
      ends = settled_end (record b { machine = step p l.machine t; steps = b.steps + 1 }) t (step p l.machine t).end on

  pub step_manned : MannedLedger k
  step_manned = record {
    runs = runs_k;
    one = λ u v w q r. I.one u v w (was u w q) (was v w r);
    out = λ u c. elim (cases_eq u t) [
      | inl e ↦ absurd (both_ways (collecting (slice_get k.heaps t)) leaves.1 (ap (λ v. collecting (slice_get k.heaps v)) (sym e) ∙ c))
      | inr ne ↦ step_manned_by_cases u ne (slice_get k.heaps u) refl c
    ];
  }
    where
      step_manned_by_cases : (u : ℕ) → (u ≡ t → ⊥) → (o : Option Heap) → slice_get k.heaps u ≡ o → collecting o ≡ true → is_some (worker_at o) ≡ true
      step_manned_by_cases u ne None e c = c
      step_manned_by_cases u ne (Some h) e c = goes_k u h e ne c

task_step_manned : (p : ProgramText) (l : Ledger) (t : ℕ) → SoundAt t l → MannedLedger l → MannedLedger (task_step p l t)
task_step_manned p l t S I = step_keeps MannedLedger p l t (step_manned p l t S I) I

task_steps_manned : (p : ProgramText) (k : ℕ) (l : Ledger) (t : ℕ) → SoundAt t l → MannedLedger l → MannedLedger (task_steps p l t k)
task_steps_manned p k l t S I = steps_keep MannedLedger p t (λ m R J. task_step_manned p m t R J) k l S I

-- ENTRIES

-- a worker that isn't found to hold a task holds none
pub holding_none : (w t : ℕ) (heaps : List Heap) → out_from w t heaps ≡ None → (u : ℕ) → worker_at (slice_get heaps u) ≡ Some w → ⊥
holding_none w t [] h u q = none_some q
holding_none w t (g ∷ heaps) h u q = holding_none_by_cases (option_is g.worker w) refl h (λ v free r. holding_none w (t + 1) heaps free v r) u q
  where
    held_is : g.worker ≡ Some w → option_is g.worker w ≡ true
    held_is e = ap (λ o. option_is o w) e ∙ eq-eqb w w refl

    none_task : {A : Type 0} → ◌≡◌ {A = Option ℕ} (Some t) None → A
    none_task q' = absurd cc

    holding_none_by_cases : (v : Bool) → option_is g.worker w ≡ v → cond v (Some t) (out_from w (t + 1) heaps) ≡ None
        → ((u' : ℕ) → out_from w (t + 1) heaps ≡ None → worker_at (slice_get heaps u') ≡ Some w → ⊥) → (u' : ℕ) → worker_at (slice_get (g ∷ heaps) u') ≡ Some w → ⊥
    holding_none_by_cases true e free more u' q' = none_task free
    holding_none_by_cases false e free more zero q' = both_ways (option_is g.worker w) e (held_is q')
    holding_none_by_cases false e free more (suc u') q' = more u' free q'

pub none_holding : (o : Option ℕ) → is_none (refused_holding o None) ≡ true → o ≡ None
none_holding None h = refl
none_holding (Some t) h = absurd (false≢true h)

took_manned : (l : Ledger) (w t : ℕ) → MannedLedger l → is_running (slice_get l.machine.tasks t) ≡ true → out_from w 0 l.heaps ≡ None → MannedLedger (with_heap l t (λ h. record h { worker = Some w }))
took_manned l w t I run free = with_heap_any MannedLedger l t (λ h. record h { worker = Some w }) I (λ h e.
    let h' : Heap = record h { worker = Some w } in
    let heaps' : List Heap = slice_set l.heaps t h' in
    let here : (u : ℕ) → u ≡ t → worker_at (slice_get heaps' u) ≡ Some w = λ u q. ap (λ v. worker_at (slice_get heaps' v)) q ∙ ap worker_at (got_same l.heaps t h h' e) in
    let other : (u : ℕ) → (u ≡ t → ⊥) → worker_at (slice_get heaps' u) ≡ worker_at (slice_get l.heaps u) = λ u ne. ap worker_at (got_other l.heaps t u h' ne) in
    record {
      runs = λ on u v q. elim (cases_eq u t) [
        | inl same ↦ ap (λ x. is_running (slice_get l.machine.tasks x)) same ∙ run
        | inr ne ↦ I.runs on u v (sym (other u ne) ∙ q)
      ];
      one = λ u v x q r. elim (cases_eq u t) [
        | inl same ↦ elim (cases_eq v t) [
          | inl same' ↦ same ∙ sym same'
          | inr ne ↦ absurd (holding_none w 0 l.heaps free v (sym (other v ne) ∙ (r ∙ (sym q ∙ here u same))))
        ]
        | inr ne ↦ elim (cases_eq v t) [
          | inl same' ↦ absurd (holding_none w 0 l.heaps free u (sym (other u ne) ∙ (q ∙ (sym r ∙ here v same'))))
          | inr ne' ↦ I.one u v x (sym (other u ne) ∙ q) (sym (other v ne') ∙ r)
        ]
      ];
      out = λ u c. elim (cases_eq u t) [
        | inl same ↦ ap is_some (here u same)
        | inr ne ↦ ap is_some (other u ne) ∙ I.out u (sym (ap collecting (got_other l.heaps t u h' ne)) ∙ c)
      ];
    })

pub chunk_worker_by : (h : Heap) (n : ℕ) (v : Bool) → (cond v (record h { chunks = h.chunks ++ [] ∷ []; room = chunk_words }) (record h { reserved = n })).worker ≡ h.worker
chunk_worker_by h n true = refl
chunk_worker_by h n false = refl

chunk_begun_by : (h : Heap) (n : ℕ) (v : Bool) → (cond v (record h { chunks = h.chunks ++ [] ∷ []; room = chunk_words }) (record h { reserved = n })).begun ≡ h.begun
chunk_begun_by h n true = refl
chunk_begun_by h n false = refl

chunk_manned : (l : Ledger) (t : ℕ) (next : Option ℕ) (full : Bool) (end : RunEnd) → MannedLedger l → MannedLedger (cond full (record l { end = Some end }) (with_heap l t (with_chunk next)))
chunk_manned l t next true end I = record { runs = λ on. absurd cc; one = I.one; out = I.out }
chunk_manned l t next false end I =
    same_manned l t (with_chunk next) (λ h. chunk_worker_by h (chunk_units next) (on_asked next is_small_size)) (λ h e c. still l t I h e (sym (ap is_some (chunk_begun_by h (chunk_units next) (on_asked next is_small_size))) ∙ c)) I

held_some : (o : Option ℕ) (w : ℕ) → option_is o w ≡ true → is_some o ≡ true
held_some None w h = h
held_some (Some v) w h = refl

out_held : (l : Ledger) (w t : ℕ) → is_out l w t ≡ true → is_some (heap_of l t).worker ≡ true
out_held l w t h = held_some (heap_of l t).worker w (and_parts (is_running (slice_get l.machine.tasks t)) (option_is (heap_of l t).worker w) h).1

kind_manned : (p : ProgramText) (s : SettingsValue) (l : Ledger) (w : ℕ) (kind : Kind) → SoundLedger l → is_none (kind_refusal p s l w kind) ≡ true → MannedLedger l → MannedLedger (after_kind p s l w kind)
kind_manned p s l w (Took t) S h I =
    let a = none_unless (is_ready l t) _ _ h in
    took_manned l w t I (and_parts (is_running (slice_get l.machine.tasks t)) (is_none (heap_of l t).worker) a.0).0 (none_holding (out_from w 0 l.heaps) a.1)
kind_manned p s l w (Ran t k) S h I = task_steps_manned p k l t (S, (out_tells l w t _ h).1) I
kind_manned p s l w (Chunk t) S h I = chunk_manned l t (asked p l.machine t) (nat_lt s.chunks (in_use l + chunk_units (asked p l.machine t))) (Pool (in_use l)) I
kind_manned p s l w (Begin t) S h I =
    let held = out_held l w t (none_unless (is_out l w t) _ _ h).0 in
    same_manned l t _ (λ g. refl) (λ g e c. subst (λ (x : Heap). is_some x.worker ≡ true) (ap or_fresh e) held) I
kind_manned p s l w (EndOf t a g n) S h I = same_manned l t (collected l.machine) (λ g. refl) (λ g e c. absurd (false≢true c)) I
kind_manned p s l w (PutOff t) S h I = same_manned l t _ (λ g. refl) (λ g e c. still l t I g e c) I
kind_manned p s l w (Mark t) S h I = same_manned l t _ (λ g. refl) (λ g e c. still l t I g e c) I
kind_manned p s l w (More t n) S h I = same_manned l t _ (λ g. refl) (λ g e c. still l t I g e c) I
kind_manned p s l w (Sweep t g) S h I = same_manned l t swept_heap (λ g. refl) (λ g e c. still l t I g e c) I
kind_manned p s l w Fuel S h I = record { runs = λ on. absurd cc; one = I.one; out = I.out }

first_free : (u w : ℕ) → worker_at (slice_get (fresh ∷ []) u) ≡ Some w → ⊥
first_free zero w q = none_some q
first_free (suc u) w q = none_some q

opening_manned : (p : ProgramText) (s : SettingsValue) → MannedLedger (opening p s)
opening_manned p s = record { runs = λ on u w q. absurd (first_free u w q); one = λ u v w q r. absurd (first_free u w q); out = λ u c. absurd (fresh_idle u c) }

pub worker_of : (l : Ledger) (t : ℕ) → (heap_of l t).worker ≡ worker_at (slice_get l.heaps t)
worker_of l t = worker_of_by_cases (slice_get l.heaps t)
  where
    worker_of_by_cases : (o : Option Heap) → (or_fresh o).worker ≡ worker_at o
    worker_of_by_cases None = refl
    worker_of_by_cases (Some h) = refl

begun_of : (l : Ledger) (t : ℕ) → is_some (heap_of l t).begun ≡ collecting (slice_get l.heaps t)
begun_of l t = begun_of_by_cases (slice_get l.heaps t)
  where
    begun_of_by_cases : (o : Option Heap) → is_some (or_fresh o).begun ≡ collecting o
    begun_of_by_cases None = refl
    begun_of_by_cases (Some h) = refl

pub tasks_are_out_once : TasksAreOutOnce
tasks_are_out_once p s journal legal =
    let l : Ledger = ledger_of p s journal in
    let S = legal_sound p s journal legal in
    let I = journal_keeps MannedLedger p s (kind_manned p s) journal (opening p s) (opening_sound p s) (opening_manned p s) legal in
    record {
      as_many = S.lengths;
      runs = λ on t w q. I.runs on t w (sym (worker_of l t) ∙ q);
      one = λ t u w q r. I.one t u w (sym (worker_of l t) ∙ q) (sym (worker_of l u) ∙ r);
      collecting = λ t c. ap is_some (worker_of l t) ∙ I.out t (sym (begun_of l t) ∙ c);
    }
