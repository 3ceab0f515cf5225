-- Survivors and snapshots are what was reachable when they were recorded.
use Rattle.journal_laws.proofs.Common.{◌≡◌, ℕ, zero, suc, ◌+◌, ◌≤◌, Bool, true, false, cond, Option, Some, None, List, [], ◌∷◌, ◌++◌, length, slice_get, slice_set, sum_by, nat_lt, ◌⊎◌, inl, inr, refl, ap, sym, subst, ◌∙◌, is_none, is_some, append_assoc, append-nil, arith, eqb-true, false≢true, cases_eq, both_ways, and_parts, eqb-false, sum_by-cons, In, in_append_cases, in_from_contains, in_from_kept, contains_from_in, got_front, got_other, got_same, got_within, Kind, Took, Ran, Chunk, Begin, End as EndOf, PutOff, Mark, More, Sweep, Fuel, EntryValue, SettingsValue, ProgramText, Name, Object, MachineState, asked, can_step, is_running, step, waiting, waits_is, wait_task, waits_alone, Heap, Ledger, Pool, reached_by, chunk_words, collected, forked_heap, fresh, heap_at, heap_of, held_in, in_use, is_small_size, or_fresh, roots_of, swept_heap, take_of, with_heap, with_heap_at, within, allocated_by, allocated_in, at_fork, moved_on, moved_to, on_asked, settled, stepped_to, task_step, task_steps, after, after_kind, chunk_units, is_out, kind_refusal, refusal, with_chunk, is_legal_from, ledger_of, opening, wait_run, after_cut, cut_legal, left_step, heap_view, heap_off, chunk_up, swept_up, collecting_is, entry_sound, entry_tells, none_unless, opening_sound, out_runs, out_tells, stepped_machine, moves_each, SoundLedger, collecting, SoundAt, heap_of_task, step_keeps, step_leaves, steps_keep, task_step_sound, can_tells, task_steps_sound, copies, distinct, hit, legal_stocked, with_heap_any, kept_weight, weight, BeganWith, ForkedWith, HasNone, SnapshotsAreHeld, SnapshotsAreWithin, SurvivorsAreWithin, begins, is_of_steps}
use Rattle.journal_laws.proofs.OfNames.{flat_fresh, flat_set, held_fresh, held_set, within_same}

-- ONE HEAP OF A LEDGER

heap_here : (l : Ledger) (t : ℕ) (f : Heap → Heap) → (heap_of (with_heap l t f) t ≡ f (heap_of l t)) ⊎ (heap_of (with_heap l t f) t ≡ fresh)
heap_here l t f = heap_here_by_cases (heap_at l t) refl
  where
    heap_here_by_cases : (o : Option Heap) → heap_at l t ≡ o → (heap_of (with_heap_at l t f o) t ≡ f (heap_of l t)) ⊎ (heap_of (with_heap_at l t f o) t ≡ fresh)
    heap_here_by_cases None e = inr (ap or_fresh e)
    heap_here_by_cases (Some h) e = inl (ap or_fresh (got_same l.heaps t h (f h) e) ∙ ap (λ o. f (or_fresh o)) (sym e))

no_begun : {A : Type 0} (h : Heap) → h ≡ fresh → is_some h.begun ≡ true → A
no_begun h e c = absurd (false≢true (ap (λ (g : Heap). is_some g.begun) (sym e) ∙ c))

-- THE SURVIVORS

-- a leaf collection of t that goes on went on before, with the same survivors
abbrev GoesOn : ℕ → Ledger → Ledger → Type 0
GoesOn t l k = is_some (heap_of k t).begun ≡ true → (is_some (heap_of l t).begun ≡ true) × ((heap_of k t).survivors ≡ (heap_of l t).survivors)

on_both : (t : ℕ) (l k m : Ledger) → GoesOn t l k → GoesOn t k m → GoesOn t l m
on_both t l k m A B c = let b = B c in let a = A b.0 in (a.0, b.1 ∙ a.1)

on_view : (t u : ℕ) (l : Ledger) (f : Heap → Heap) → ((h : Heap) → (f h).begun ≡ h.begun) → ((h : Heap) → (f h).survivors ≡ h.survivors) → GoesOn t l (with_heap l u f)
on_view t u l f eb es c = (ap is_some (sym (heap_view (λ h. h.begun) l u f eb t)) ∙ c, heap_view (λ h. h.survivors) l u f es t)

on_off : (t u : ℕ) (l : Ledger) (f : Heap → Heap) → (t ≡ u → ⊥) → GoesOn t l (with_heap l u f)
on_off t u l f ne c = let e = heap_off l u f t ne in (ap (λ (h : Heap). is_some h.begun) (sym e) ∙ c, ap (λ (h : Heap). h.survivors) e)

on_end : (t u : ℕ) (l : Ledger) → GoesOn t l (with_heap l u (collected l.machine))
on_end t u l c = elim (cases_eq t u) [
  | inl e ↦
      let c' : is_some (heap_of (with_heap l u (collected l.machine)) u).begun ≡ true = ap (λ v. is_some (heap_of (with_heap l u (collected l.machine)) v).begun) (sym e) ∙ c in
      elim (heap_here l u (collected l.machine)) [
        | inl now ↦ absurd (false≢true (ap (λ (h : Heap). is_some h.begun) (sym now) ∙ c'))
        | inr none ↦ no_begun _ none c'
      ]
  | inr ne ↦ on_off t u l (collected l.machine) ne c
]

on_chunk : (t u : ℕ) (l : Ledger) (next : Option ℕ) (full : Bool) → GoesOn t l (cond full (record l { end = Some (Pool (in_use l)) }) (with_heap l u (with_chunk next)))
on_chunk t u l next true c = (c, refl)
on_chunk t u l next false c = on_view t u l (with_chunk next) (λ h. begun_by h (on_asked next is_small_size)) (λ h. survivors_by h (on_asked next is_small_size)) c
  where
    begun_by : (h : Heap) (v : Bool) → (cond v (record h { chunks = h.chunks ++ [] ∷ []; room = chunk_words }) (record h { reserved = chunk_units next })).begun ≡ h.begun
    begun_by h true = refl
    begun_by h false = refl

    survivors_by : (h : Heap) (v : Bool) → (cond v (record h { chunks = h.chunks ++ [] ∷ []; room = chunk_words }) (record h { reserved = chunk_units next })).survivors ≡ h.survivors
    survivors_by h true = refl
    survivors_by h false = refl

-- a step of another task
module _ (p : ProgramText) (t u : ℕ) (ne : t ≡ u → ⊥) where
  alloc_off : (l : Ledger) (o : Option ℕ) → slice_get (allocated_by l u o).heaps t ≡ slice_get l.heaps t
  alloc_off l None = refl
  alloc_off l (Some w) = with_heap_any (λ k. slice_get k.heaps t ≡ slice_get l.heaps t) l u _ refl (λ h e. got_other l.heaps u t _ ne)

  module _ (l : Ledger) (S : SoundAt u l) (can : can_step l.machine u ≡ true) (idle : collecting (slice_get l.heaps t) ≡ false) where
    abbrev b : Ledger
    b = allocated_in p l u

    abbrev k : Ledger
    k = stepped_to (allocated_in p l u) u (step p l.machine u)

    abbrev Idle : ℕ → Heap → Type 0
    Idle v h = v ≡ t → is_some h.begun ≡ false

    idle_b : (v : ℕ) (h : Heap) → slice_get b.heaps v ≡ Some h → Idle v h
    idle_b v h e q = ap collecting (sym (ap (slice_get b.heaps) (sym q) ∙ e)) ∙ (ap collecting (alloc_off l (asked p l.machine u)) ∙ idle)

    idle_k : (v : ℕ) (h : Heap) → slice_get k.heaps v ≡ Some h → Idle v h
    idle_k =
        moves_each Idle u l.machine.tasks b.heaps k.heaps (step_leaves p l u S can).2 idle_b (λ h q e. q e) (λ v e. refl) (λ ns h q e. q e) (λ v h x y i j is wait none q qx qy e. none)
        (λ v h none q e. none)

    pub idle_then : collecting (slice_get k.heaps t) ≡ false
    idle_then = idle_then_by_cases (slice_get k.heaps t) refl
      where
        idle_then_by_cases : (o : Option Heap) → slice_get k.heaps t ≡ o → collecting o ≡ false
        idle_then_by_cases None e = refl
        idle_then_by_cases (Some h) e = idle_k t h e refl

  on_step_by : (l : Ledger) → SoundAt u l → (v : Bool) → is_running (slice_get l.machine.tasks t) ≡ v → GoesOn t l (task_step p l u)
  on_step_by l S true e c =
      let same = ap or_fresh (left_step p l u t S ne e).1 in
      (ap (λ (h : Heap). is_some h.begun) (sym same) ∙ c, ap (λ (h : Heap). h.survivors) same)
  on_step_by l S false e c' = on_step_by_cases (can_step l.machine u) refl c'
    where
      idle : (v : Bool) → collecting (slice_get l.heaps t) ≡ v → v ≡ false
      idle true c = absurd (both_ways (is_running (slice_get l.machine.tasks t)) e (S.0.running t c))
      idle false c = refl

      on_step_by_cases : (v : Bool) → can_step l.machine u ≡ v → GoesOn t l (cond v (stepped_to (allocated_in p l u) u (step p l.machine u)) (record l { steps = l.steps + 1 }))
      on_step_by_cases false can c = (c, refl)
      on_step_by_cases true can c =
          absurd (false≢true (sym (idle_then l S can (let q = idle (collecting (slice_get l.heaps t)) refl in q))
          ∙ (sym (collecting_is (slice_get (stepped_to (allocated_in p l u) u (step p l.machine u)).heaps t)) ∙ c)))

  on_steps : (k : ℕ) (l : Ledger) → SoundAt u l → GoesOn t l (task_steps p l u k)
  on_steps zero l S c = (c, refl)
  on_steps (suc k) l S c =
      on_both t l (task_step p l u) (task_steps p (task_step p l u) u k) (on_step_by l S (is_running (slice_get l.machine.tasks t)) refl) (on_steps k (task_step p l u) (task_step_sound p l u S)) c

on_kind : (p : ProgramText) (s : SettingsValue) (l : Ledger) (t w : ℕ) (kind : Kind) → SoundLedger l → is_none (kind_refusal p s l w kind) ≡ true → begins t kind ≡ false → GoesOn t l (after_kind p s l w kind)
on_kind p s l t w (Took u) S h off = on_view t u l _ (λ g. refl) (λ g. refl)
on_kind p s l t w (Ran u k) S h off = elim (cases_eq t u) [
  | inl e ↦ λ c.
      let A = (task_steps_sound p k l u (S, (out_tells l w u _ h).1)).1 in
      absurd (false≢true (sym A ∙ (sym (collecting_is (slice_get (task_steps p l u k).heaps u)) ∙ (ap (λ v. is_some (heap_of (task_steps p l u k) v).begun) (sym e) ∙ c))))
  | inr ne ↦ on_steps p t u ne k l (S, (out_tells l w u _ h).1)
]
on_kind p s l t w (Chunk u) S h off = on_chunk t u l (asked p l.machine u) (nat_lt s.chunks (in_use l + chunk_units (asked p l.machine u)))
on_kind p s l t w (Begin u) S h off = on_off t u l _ (λ e. eqb-false u t off (sym e))
on_kind p s l t w (EndOf u a g n) S h off = on_end t u l
on_kind p s l t w (PutOff u) S h off = on_view t u l _ (λ g. refl) (λ g. refl)
on_kind p s l t w (Mark u) S h off = on_view t u l _ (λ g. refl) (λ g. refl)
on_kind p s l t w (More u n) S h off = on_view t u l _ (λ g. refl) (λ g. refl)
on_kind p s l t w (Sweep u g) S h off = on_view t u l swept_heap (λ k. refl) (λ k. refl)
on_kind p s l t w Fuel S h off = λ c. (c, refl)

-- THE SNAPSHOT

-- a task that waits waited before, with the same snapshot, and what was held of it still is
abbrev WaitsOn : ℕ → Ledger → Ledger → Type 0
WaitsOn t l k =
    waiting k.machine.tasks t ≡ true
    → (waiting l.machine.tasks t ≡ true) × ((heap_of k t).snapshot ≡ (heap_of l t).snapshot)
    × ((n : Name) → In (heap_of l t).snapshot n → In (held_in (heap_of l t)) n → In (held_in (heap_of k t)) n)

wait_both : (t : ℕ) (l k m : Ledger) → WaitsOn t l k → WaitsOn t k m → WaitsOn t l m
wait_both t l k m A B w =
    let b = B w in
    let a = A b.0 in
    (a.0, b.1 ∙ a.1, λ n i j. b.2 n (subst (λ ns. In ns n) (sym a.1) i) (a.2 n i j))

wait_view : (t u : ℕ) (l : Ledger) (f : Heap → Heap) → ((h : Heap) → (f h).snapshot ≡ h.snapshot) → ((h : Heap) (n : Name) → In h.snapshot n → In (held_in h) n → In (held_in (f h)) n) → WaitsOn t l (with_heap l u f)
wait_view t u l f es up = with_heap_any (WaitsOn t l) l u f (λ w. (w, refl, λ n i j. j)) (λ h e w. (w, wait_view_same h e, held h e))
  where
    wait_view_same : (h : Heap) → slice_get l.heaps u ≡ Some h → (or_fresh (slice_get (slice_set l.heaps u (f h)) t)).snapshot ≡ (heap_of l t).snapshot
    wait_view_same h e = elim (cases_eq t u) [
      | inl q ↦
          ap (λ v. (or_fresh (slice_get (slice_set l.heaps u (f h)) v)).snapshot) q
          ∙ (ap (λ o. (or_fresh o).snapshot) (got_same l.heaps u h (f h) e) ∙ (es h ∙ (ap (λ o. (or_fresh o).snapshot) (sym e) ∙ ap (λ v. (or_fresh (slice_get l.heaps v)).snapshot) (sym q))))
      | inr ne ↦ ap (λ o. (or_fresh o).snapshot) (got_other l.heaps u t (f h) ne)
    ]

    held : (h : Heap) → slice_get l.heaps u ≡ Some h → (n : Name) → In (heap_of l t).snapshot n → In (held_in (heap_of l t)) n → In (held_in (or_fresh (slice_get (slice_set l.heaps u (f h)) t))) n
    held h e n i j = elim (cases_eq t u) [
      | inl q ↦
          let was : slice_get l.heaps t ≡ Some h = ap (slice_get l.heaps) q ∙ e in
          let now : slice_get (slice_set l.heaps u (f h)) t ≡ Some (f h) = ap (slice_get (slice_set l.heaps u (f h))) q ∙ got_same l.heaps u h (f h) e in
          subst (λ o. In (held_in (or_fresh o)) n) (sym now) (up h n (subst (λ o. In (or_fresh o).snapshot n) was i) (subst (λ o. In (held_in (or_fresh o)) n) was j))
      | inr ne ↦ subst (λ o. In (held_in (or_fresh o)) n) (sym (got_other l.heaps u t (f h) ne)) j
    ]

wait_off : (t u : ℕ) (l : Ledger) (f : Heap → Heap) → (waiting l.machine.tasks t ≡ true → t ≡ u → ⊥) → WaitsOn t l (with_heap l u f)
wait_off t u l f ne = with_heap_any (WaitsOn t l) l u f (λ w. (w, refl, λ n i j. j)) (λ h e w.
    let off = got_other l.heaps u t (f h) (ne w) in
    (w, ap (λ o. (or_fresh o).snapshot) off, λ n i j. subst (λ o. In (held_in (or_fresh o)) n) (sym off) j))

wait_chunk : (t u : ℕ) (l : Ledger) (next : Option ℕ) (full : Bool) → WaitsOn t l (cond full (record l { end = Some (Pool (in_use l)) }) (with_heap l u (with_chunk next)))
wait_chunk t u l next true = λ w. (w, refl, λ n i j. j)
wait_chunk t u l next false = wait_view t u l (with_chunk next) (λ h. wait_chunk_same h (on_asked next is_small_size)) (λ h n i j. held h n (on_asked next is_small_size) j)
  where
    wait_chunk_same : (h : Heap) (v : Bool) → (cond v (record h { chunks = h.chunks ++ [] ∷ []; room = chunk_words }) (record h { reserved = chunk_units next })).snapshot ≡ h.snapshot
    wait_chunk_same h true = refl
    wait_chunk_same h false = refl

    held : (h : Heap) (n : Name) (v : Bool) → In (held_in h) n → In (held_in (cond v (record h { chunks = h.chunks ++ [] ∷ []; room = chunk_words }) (record h { reserved = chunk_units next }))) n
    held h n true j = chunk_up h chunk_words n j
    held h n false j = j

module _ (p : ProgramText) (t u : ℕ) (ne : t ≡ u → ⊥) where
  wait_step : (l : Ledger) → SoundAt u l → WaitsOn t l (task_step p l u)
  wait_step l S = wait_step_by_cases (can_step l.machine u) refl
    where
      wait_step_by_cases : (v : Bool) → can_step l.machine u ≡ v → WaitsOn t l (cond v (stepped_to (allocated_in p l u) u (step p l.machine u)) (record l { steps = l.steps + 1 }))
      wait_step_by_cases false can w = (w, refl, λ n i j. j)
      wait_step_by_cases true can w =
          let machine_is = stepped_machine (allocated_in p l u) u (step p l.machine u) in
          let off = (step_leaves p l u S can).4 t ne (inr w) in (
            (waits_alone p l.machine u S.0.fork_join).others t ne (ap (λ (m : MachineState). waiting m.tasks t) (sym machine_is) ∙ w),
            ap (λ o. (or_fresh o).snapshot) off,
            λ n i j. subst (λ o. In (held_in (or_fresh o)) n) (sym off) j,
          )

  wait_steps : (k : ℕ) (l : Ledger) → SoundAt u l → WaitsOn t l (task_steps p l u k)
  wait_steps zero l S = λ w. (w, refl, λ n i j. j)
  wait_steps (suc k) l S = wait_both t l (task_step p l u) (task_steps p (task_step p l u) u k) (wait_step l S) (wait_steps k (task_step p l u) (task_step_sound p l u S))

wait_kind : (p : ProgramText) (s : SettingsValue) (l : Ledger) (t w : ℕ) (kind : Kind) → SoundLedger l → is_none (kind_refusal p s l w kind) ≡ true → is_of_steps t kind ≡ false → WaitsOn t l (after_kind p s l w kind)
wait_kind p s l t w (Took u) S h off = wait_view t u l _ (λ g. refl) (λ g n i j. j)
wait_kind p s l t w (Ran u k) S h off = wait_steps p t u (λ e. eqb-false u t off (sym e)) k l (S, (out_tells l w u _ h).1)
wait_kind p s l t w (Chunk u) S h off = wait_chunk t u l (asked p l.machine u) (nat_lt s.chunks (in_use l + chunk_units (asked p l.machine u)))
wait_kind p s l t w (Begin u) S h off = wait_view t u l _ (λ g. refl) (λ g n i j. j)
wait_kind p s l t w (EndOf u a g n) S h off = wait_off t u l (collected l.machine) (λ wait e. wait_run l.machine u (ap (waiting l.machine.tasks) (sym e) ∙ wait) (out_runs l w u (none_unless (is_out l w u) _ _ h).0))
wait_kind p s l t w (PutOff u) S h off = wait_view t u l _ (λ g. refl) (λ g n i j. j)
wait_kind p s l t w (Mark u) S h off = wait_view t u l _ (λ g. refl) (λ g n i j. j)
wait_kind p s l t w (More u n) S h off = wait_view t u l _ (λ g. refl) (λ g k i j. j)
wait_kind p s l t w (Sweep u g) S h off = wait_view t u l swept_heap (λ k. refl) (λ k n i j. swept_up k n j i)
wait_kind p s l t w Fuel S h off = λ w'. (w', refl, λ n i j. j)

-- A FORK

-- what is reached is among the names
reached_less : (g : Name → ℕ) (store : List (List Object)) (names roots : List Name) (k : ℕ) → sum_by g (reached_by store names roots k) ≤ sum_by g names
reached_less g store names roots zero = kept_weight g _ names
reached_less g store names roots (suc k) = kept_weight g _ names

reached_in : (store : List (List Object)) (names roots : List Name) (k : ℕ) (n : Name) → In (reached_by store names roots k) n → In names n
reached_in store names roots zero n i = (in_from_kept _ names n i).0
reached_in store names roots (suc k) n i = (in_from_kept _ names n i).0

within_in : (l : Ledger) (t : ℕ) (n : Name) → In (within l t) n → In (held_in (heap_of l t)) n
within_in l t n i = reached_in l.machine.store (held_in (heap_of l t)) (roots_of l t) (length (held_in (heap_of l t))) n i

-- while t waits, the snapshot is what is reachable
abbrev Snapped : ℕ → Ledger → Type 0
Snapped t l = waiting l.machine.tasks t ≡ true → (heap_of l t).snapshot ≡ within l t

module _ (c : Ledger) (t : ℕ) (h : Heap) (is : slice_get c.heaps t ≡ Some h) where
  abbrev d : Ledger
  d = record c { heaps = c.heaps ++ fresh ∷ fresh ∷ [] }

  abbrev hf : Heap
  hf = forked_heap (within c t) h

  at_d : slice_get d.heaps t ≡ Some h
  at_d = got_front c.heaps (fresh ∷ fresh ∷ []) t (got_within c.heaps t h is) ∙ is

  fork_is : at_fork c t ≡ record c { heaps = slice_set d.heaps t hf }
  fork_is = ap (with_heap_at d t (forked_heap (within c t))) at_d

  pub fork_set_down : (heap_of (at_fork c t) t).snapshot ≡ within c t
  fork_set_down = ap (λ (k : Ledger). (heap_of k t).snapshot) fork_is ∙ ap (λ o. (or_fresh o).snapshot) (got_same d.heaps t h hf at_d)

  fork_snapped : (heap_of (at_fork c t) t).snapshot ≡ within (at_fork c t) t
  fork_snapped =
      fork_set_down
      ∙ (sym (within_same c (slice_set d.heaps t hf) t (flat_set d.heaps t h hf at_d refl ∙ flat_fresh c.heaps) (held_set d.heaps t h hf at_d refl t ∙ held_fresh c.heaps t))
      ∙ ap (λ (k : Ledger). within k t) (sym fork_is))

alloc_heap : (l : Ledger) (t : ℕ) (h : Heap) (o : Option ℕ) → slice_get l.heaps t ≡ Some h → (g : Heap) × (slice_get (allocated_by l t o).heaps t ≡ Some g)
alloc_heap l t h None is = (h, is)
alloc_heap l t h (Some w) is = (_, ap (λ (k : Ledger). slice_get k.heaps t) (ap (with_heap_at l t _) is) ∙ got_same l.heaps t h _ is)

-- a step after which the task waits is a fork
pub forks_at : (p : ProgramText) (l b : Ledger) (t : ℕ) → SoundAt t l → can_step l.machine t ≡ true → waiting (step p l.machine t).tasks t ≡ true
    → stepped_to b t (step p l.machine t) ≡ at_fork (record b { machine = step p l.machine t; steps = b.steps + 1 }) t
forks_at p l b t S can w =
    let m' : MachineState = step p l.machine t in
    let c : Ledger = record b { machine = m'; steps = b.steps + 1 } in
    let none = (waits_alone p l.machine t S.0.fork_join).own can w in
    let x = wait_task (slice_get m'.tasks t) w in
    ap (settled c t) none ∙ (ap (moved_to c t) x.1 ∙ ap (moved_on c t (x.0).parent) (waits_is (x.0).status x.2))

snap_can : (p : ProgramText) (l : Ledger) (t : ℕ) → SoundAt t l → can_step l.machine t ≡ true → Snapped t (stepped_to (allocated_in p l t) t (step p l.machine t))
snap_can p l t S can w =
    let m' : MachineState = step p l.machine t in
    let b : Ledger = allocated_in p l t in
    let c : Ledger = record b { machine = m'; steps = b.steps + 1 } in
    let w' : waiting m'.tasks t ≡ true = ap (λ (m : MachineState). waiting m.tasks t) (sym (stepped_machine b t m')) ∙ w in
    let forks : stepped_to b t m' ≡ at_fork c t = forks_at p l b t S can w' in
    let h = heap_of_task l t S.0 (can_tells l.machine t can).1 in
    let g = alloc_heap l t h.0 (asked p l.machine t) h.1 in
    subst (λ (k : Ledger). (heap_of k t).snapshot ≡ within k t) (sym forks) (fork_snapped c t g.0 g.1)

snap_step : (p : ProgramText) (l : Ledger) (t : ℕ) → SoundAt t l → Snapped t l → Snapped t (task_step p l t)
snap_step p l t S I = step_keeps (Snapped t) p l t (snap_can p l t S) I

snap_steps : (p : ProgramText) (k : ℕ) (l : Ledger) (t : ℕ) → SoundAt t l → Snapped t l → Snapped t (task_steps p l t k)
snap_steps p k l t S I = steps_keep (Snapped t) p t (λ m R J. snap_step p m t R J) k l S I

-- JOURNALS

begins_is : (t : ℕ) (kind : Kind) → begins t kind ≡ true → kind ≡ Begin t
begins_is t (Begin u) h = ap Begin (eqb-true u t h)
begins_is t (Took u) h = absurd (false≢true h)
begins_is t (Ran u k) h = absurd (false≢true h)
begins_is t (Chunk u) h = absurd (false≢true h)
begins_is t (EndOf u a g n) h = absurd (false≢true h)
begins_is t (PutOff u) h = absurd (false≢true h)
begins_is t (Mark u) h = absurd (false≢true h)
begins_is t (More u n) h = absurd (false≢true h)
begins_is t (Sweep u g) h = absurd (false≢true h)
begins_is t Fuel h = absurd (false≢true h)

steps_is : (t : ℕ) (kind : Kind) → is_of_steps t kind ≡ true → (k : ℕ) × (kind ≡ Ran t k)
steps_is t (Ran u k) h = (k, ap (λ v. Ran v k) (eqb-true u t h))
steps_is t (Begin u) h = absurd (false≢true h)
steps_is t (Took u) h = absurd (false≢true h)
steps_is t (Chunk u) h = absurd (false≢true h)
steps_is t (EndOf u a g n) h = absurd (false≢true h)
steps_is t (PutOff u) h = absurd (false≢true h)
steps_is t (Mark u) h = absurd (false≢true h)
steps_is t (More u n) h = absurd (false≢true h)
steps_is t (Sweep u g) h = absurd (false≢true h)
steps_is t Fuel h = absurd (false≢true h)

none_more : (test : Kind → Bool) (rest : List EntryValue) (e : EntryValue) → HasNone test rest → test e.kind ≡ false → HasNone test (rest ++ e ∷ [])
none_more test rest e none off f c = elim (in_append_cases rest (e ∷ []) f (in_from_contains (rest ++ e ∷ []) f c)) [
  | inl i ↦ none f (contains_from_in rest f i)
  | inr i ↦ elim i [ inl same ↦ ap (λ (g : EntryValue). test g.kind) (sym same) ∙ off | inr never ↦ absurd never ]
]

none_yet : (test : Kind → Bool) → HasNone test []
none_yet test f c = absurd (in_from_contains [] f c)

module _ (p : ProgramText) (s : SettingsValue) where
  abbrev At : List EntryValue → Ledger
  At journal = ledger_of p s journal

  at_next : (done : List EntryValue) (e : EntryValue) → At (done ++ e ∷ []) ≡ after p s (At done) e
  at_next done e = after_cut p s done (e ∷ []) (opening p s)

  -- what is known of a journal's heaps
  pub record Known (journal : List EntryValue) : Type 0 where
    pub began : (t : ℕ) → is_some (heap_of (At journal) t).begun ≡ true → BeganWith p s journal t
    pub forked : (t : ℕ) → waiting (At journal).machine.tasks t ≡ true → ForkedWith p s journal t
    pub holds : (t : ℕ) → waiting (At journal).machine.tasks t ≡ true → (n : Name) → In (heap_of (At journal) t).snapshot n → In (held_in (heap_of (At journal) t)) n

  module _ (done : List EntryValue) (e : EntryValue) (S : SoundLedger (At done)) (ok : is_none (refusal p s (At done) e) ≡ true) (K : Known done) where
    abbrev l : Ledger
    l = At done

    abbrev all : List EntryValue
    all = done ++ e ∷ []

    allowed : is_none (kind_refusal p s l e.worker e.kind) ≡ true
    allowed = (entry_tells p s l e ok).2

    next : At all ≡ after p s l e
    next = at_next done e

    began_by : (t : ℕ) → is_some (heap_of (At all) t).begun ≡ true → (v : Bool) → begins t e.kind ≡ v → BeganWith p s all t
    began_by t c true b =
        let kind = begins_is t e.kind b in
        let entry : e ≡ record { worker = e.worker; kind = Begin t } = λ i. record { worker = e.worker; kind = kind i } in
        let begun = subst (λ k. is_none (kind_refusal p s l e.worker k) ≡ true) kind allowed in
        let h = heap_of_task l t S (out_tells l e.worker t _ begun).0 in
        let h' : Heap = record h.0 { begun = Some (take_of l.machine h.0); survivors = within l t } in
        let now : heap_of (after_kind p s l e.worker (Begin t)) t ≡ h' =
        ap (λ (k : Ledger). heap_of k t) (ap (with_heap_at l t (λ g. record g { begun = Some (take_of l.machine g); survivors = within l t })) h.1) ∙ ap or_fresh (got_same l.heaps t h.0 h' h.1) in
        record {
          before = done;
          worker = e.worker;
          rest = [];
          is = ap (λ f. done ++ f ∷ []) entry;
          last = none_yet (begins t);
          survivors = ap (λ (k : Ledger). (heap_of k t).survivors) (next ∙ ap (after_kind p s l e.worker) kind) ∙ ap (λ (g : Heap). g.survivors) now;
        }
    began_by t c false b =
        let on = on_kind p s l t e.worker e.kind S allowed b (ap (λ (k : Ledger). is_some (heap_of k t).begun) (sym next) ∙ c) in
        let B = K.began t on.0 in
        record {
          before = B.before;
          worker = B.worker;
          rest = B.rest ++ e ∷ [];
          is = ap (λ j. j ++ e ∷ []) B.is ∙ append_assoc B.before (record { worker = B.worker; kind = Begin t } ∷ B.rest) (e ∷ []);
          last = none_more (begins t) B.rest e B.last b;
          survivors = ap (λ (k : Ledger). (heap_of k t).survivors) next ∙ (on.1 ∙ B.survivors);
        }

    waits_now : (t : ℕ) → waiting (At all).machine.tasks t ≡ true → waiting (after p s l e).machine.tasks t ≡ true
    waits_now t w = ap (λ (k : Ledger). waiting k.machine.tasks t) (sym next) ∙ w

    -- after steps of t
    snapped : (t k : ℕ) → e.kind ≡ Ran t k → Snapped t (At all)
    snapped t k kind =
        let out = out_tells l e.worker t _ (subst (λ q. is_none (kind_refusal p s l e.worker q) ≡ true) kind allowed) in
        subst (Snapped t) (sym (next ∙ ap (after_kind p s l e.worker) kind)) (snap_steps p k l t (S, out.1) (λ w. absurd (wait_run l.machine t w out.0)))

    forked_by : (t : ℕ) → waiting (At all).machine.tasks t ≡ true → (v : Bool) → is_of_steps t e.kind ≡ v → ForkedWith p s all t
    forked_by t w true b =
        let k = steps_is t e.kind b in
        let entry : e ≡ record { worker = e.worker; kind = Ran t k.0 } = λ i. record { worker = e.worker; kind = k.1 i } in
        record {
          before = done;
          worker = e.worker;
          steps = k.0;
          rest = [];
          is = ap (λ f. done ++ f ∷ []) entry;
          last = none_yet (is_of_steps t);
          snapshot = snapped t k.0 k.1 w ∙ ap (λ f. within (At (done ++ f ∷ [])) t) entry;
        }
    forked_by t w false b =
        let on = wait_kind p s l t e.worker e.kind S allowed b (waits_now t w) in
        let F = K.forked t on.0 in
        record {
          before = F.before;
          worker = F.worker;
          steps = F.steps;
          rest = F.rest ++ e ∷ [];
          is = ap (λ j. j ++ e ∷ []) F.is ∙ append_assoc F.before (record { worker = F.worker; kind = Ran t F.steps } ∷ F.rest) (e ∷ []);
          last = none_more (is_of_steps t) F.rest e F.last b;
          snapshot = ap (λ (k : Ledger). (heap_of k t).snapshot) next ∙ (on.1 ∙ F.snapshot);
        }

    holds_by : (t : ℕ) → waiting (At all).machine.tasks t ≡ true → (v : Bool) → is_of_steps t e.kind ≡ v → (n : Name) → In (heap_of (At all) t).snapshot n → In (held_in (heap_of (At all) t)) n
    holds_by t w true b n i = let k = steps_is t e.kind b in within_in (At all) t n (subst (λ ns. In ns n) (snapped t k.0 k.1 w) i)
    holds_by t w false b n i =
        let on = wait_kind p s l t e.worker e.kind S allowed b (waits_now t w) in
        let was : In (heap_of l t).snapshot n = subst (λ ns. In ns n) on.1 (subst (λ (k : Ledger). In (heap_of k t).snapshot n) next i) in
        subst (λ (k : Ledger). In (held_in (heap_of k t)) n) (sym next) (on.2 n was (K.holds t on.0 n was))

    known_next : Known all
    known_next = record {
      began = λ t c. began_by t c (begins t e.kind) refl;
      forked = λ t w. forked_by t w (is_of_steps t e.kind) refl;
      holds = λ t w. holds_by t w (is_of_steps t e.kind) refl;
    }

  known_from : (rest done : List EntryValue) → SoundLedger (At done) → is_legal_from p s (At done) rest ≡ true → Known done → Known (done ++ rest)
  known_from [] done S h K = subst Known (sym (append-nil done)) K
  known_from (e ∷ es) done S h K =
      let both = and_parts (is_none (refusal p s (At done) e)) (is_legal_from p s (after p s (At done) e) es) h in
      let n = at_next done e in
      subst Known (append_assoc done (e ∷ []) es)
      (known_from es (done ++ e ∷ []) (subst SoundLedger (sym n) (entry_sound p s (At done) e S both.0)) (subst (λ k. is_legal_from p s k es ≡ true) (sym n) both.1) (known_next done e S both.0 K))

  no_wait : (t : ℕ) → waiting (opening p s).machine.tasks t ≡ true → ⊥
  no_wait zero w = false≢true w
  no_wait (suc t) w = false≢true w

  no_begin : (t : ℕ) → is_some (heap_of (opening p s) t).begun ≡ true → ⊥
  no_begin zero c = false≢true c
  no_begin (suc t) c = false≢true c

  known_first : Known []
  known_first = record { began = λ t c. absurd (no_begin t c); forked = λ t w. absurd (no_wait t w); holds = λ t w. absurd (no_wait t w) }

  known : (journal : List EntryValue) → is_legal_from p s (opening p s) journal ≡ true → Known journal
  known journal legal = known_from journal [] (opening_sound p s) legal known_first

pub survivors_are_within : SurvivorsAreWithin
survivors_are_within p s journal t legal c = (known p s journal legal).began t c

pub snapshots_are_within : SnapshotsAreWithin
snapshots_are_within p s journal t legal w = (known p s journal legal).forked t w

-- one heap holds a name no more often than all heaps
one_copy : (n : Name) (heaps : List Heap) (t : ℕ) → sum_by (hit n) (held_in (or_fresh (slice_get heaps t))) ≤ copies n heaps
one_copy n [] t = omega arith
one_copy n (h ∷ heaps) zero = let a = sum_by-cons (weight (hit n)) h heaps in omega (arith, a)
one_copy n (h ∷ heaps) (suc t) = let a = sum_by-cons (weight (hit n)) h heaps in let b = one_copy n heaps t in omega (arith, a, b)

within_once : (p : ProgramText) (s : SettingsValue) (journal : List EntryValue) (t : ℕ) → is_legal_from p s (opening p s) journal ≡ true → (n : Name) → sum_by (hit n) (within (ledger_of p s journal) t) ≤ 1
within_once p s journal t legal n =
    let l : Ledger = ledger_of p s journal in
    let a = reached_less (hit n) l.machine.store (held_in (heap_of l t)) (roots_of l t) (length (held_in (heap_of l t))) in
    let b = one_copy n l.heaps t in
    let c = (legal_stocked p s journal legal).once n in
    omega (arith, a, b, c)

pub snapshots_are_held : SnapshotsAreHeld
snapshots_are_held p s journal t legal w =
    let l : Ledger = ledger_of p s journal in
    let K = known p s journal legal in
    let F = K.forked t w in
    let entry : EntryValue = record { worker = F.worker; kind = Ran t F.steps } in
    let whole : is_legal_from p s (opening p s) ((F.before ++ entry ∷ []) ++ F.rest) ≡ true = subst (λ j. is_legal_from p s (opening p s) j ≡ true) (F.is ∙ sym (append_assoc F.before (entry ∷ []) F.rest)) legal in
    let first = (cut_legal p s (F.before ++ entry ∷ []) F.rest (opening p s) whole).0 in
    record {
      once = distinct (heap_of l t).snapshot (λ n. subst (λ ns. sum_by (hit n) ns ≤ 1) (sym F.snapshot) (within_once p s (F.before ++ entry ∷ []) t first n));
      held = λ n c. contains_from_in (held_in (heap_of l t)) n (K.holds t w n (in_from_contains (heap_of l t).snapshot n c));
    }
