-- The chunks of heaps: what a leaf collection took, where room comes from, what is reserved for a large object, and how
-- many are in use.
use Rattle.run_ledger.proofs.Common.{◌≡◌, ℕ, zero, suc, ◌+◌, ◌-◌, ◌*◌, ◌<◌, ◌≤◌, ◌==◌, ◌||◌, not, max, Bool, true, false, cond, Option, Some, None, List, [], ◌∷◌, ◌++◌, length, slice_get, slice_set, sum_by, nat_lt, inl, inr, refl, ap, ap₂, sym, subst, ◌∙◌, arith, is_some, length-append, false≢true, both_ways, cases_eq, ltb-false, eqb-true, cases_lt, sum_by-append, sum_by-cons, same_Some, In, got_same, got_other, got_within, in_append_left, in_append_right, none_some, SettingsValue, ProgramText, Name, Waiting, Task, MachineState, onward, runs, is_running, child, joined_task, resumed, ended_task, result_of, step, can_step, asked, asked_by, asked_line, fetched, next_name, IsForkJoinState, step_cases, step_limit, waiting, grown_other, three_other, wp, below, waiting_stops, Heap, Ledger, units, is_small_size, object_words_of, words_at, small_in, held_in, begun_in, units_in, fresh, heap_of, or_fresh, with_heap_at, in_use, with_allocation, put_last, lacks_room, take_of, chunk_words, allocated_by, allocated_in, stepped_to, task_step, task_steps, is_due, is_in_need, is_private, standing, last_words}
use Rattle.run_ledger.proofs.Chunks.{sum_same, Full, full_same, last_same, last_full, put_last_words, put_full, append_full, last_append}
use Rattle.run_ledger.proofs.Machine.{stepped_machine}
use Rattle.run_ledger.proofs.Sound.{collecting, heap_names}
use Rattle.run_ledger.proofs.Moves.{moves_each}
use Rattle.run_ledger.proofs.Steps.{SoundAt, StepLeaves, heap_of_task, can_tells, step_keeps, task_step_sound}
use Rattle.run_ledger.proofs.Grown.{Grown}
use Rattle.run_ledger.proofs.Weights.{total, total_set, Additive, moves_total}
use Rattle.run_ledger.proofs.Stocks.{StockedLedger, G, L, task_step_stocked}
use Rattle.run_ledger.proofs.Bounds.{asked_bounds, stands_by}

-- SUMS THAT ARE THE SAME

pub total_same : (f g : Heap → ℕ) (heaps : List Heap) → ((u : ℕ) (h : Heap) → slice_get heaps u ≡ Some h → f h ≡ g h) → total f heaps ≡ total g heaps
total_same f g [] same = refl
total_same f g (h ∷ heaps) same =
    sum_by-cons f h heaps ∙ (ap₂ (λ a b. a + b) (same zero h refl) (total_same f g heaps (λ u k e. same (suc u) k e)) ∙ sym (sum_by-cons g h heaps))

pub units_additive : (m : MachineState) → Additive (units_in m)
units_additive m = record {
  let_go = λ h. refl;
  fresh = refl;
  forked = λ ns h. refl;
  merged = λ p l r.
      let a = sum_by-append (λ n. units (words_at m n)) (l.large ++ r.large) p.large in
      let b = sum_by-append (λ n. units (words_at m n)) l.large r.large in
      let c = length-append (l.chunks ++ r.chunks) p.chunks in
      let d = length-append l.chunks r.chunks in
      omega arith;
}

put_some : (lists : List (List Name)) (n : Name) → 0 < length (put_last lists n)
put_some [] n = omega arith
put_some (ns ∷ []) n = omega arith
put_some (ns ∷ ms ∷ rest) n = omega arith

pub put_length : (lists : List (List Name)) (n : Name) → 0 < length lists → length (put_last lists n) ≡ length lists
put_length [] n l = absurd (omega arith)
put_length (ns ∷ []) n l = refl
put_length (ns ∷ ms ∷ rest) n l = ap suc (put_length (ms ∷ rest) n (omega arith))

-- ONE HEAP

-- while a leaf collection goes on it has the chunks that it takes, and none is reserved for a large object; if there is
-- room there is a chunk; if a chunk is reserved, the task's next step allocates the large object that fits, and isn't
-- due; no list has more words than a chunk, and the last one leaves the room that is there
pub record Booked (p : ProgramText) (s : SettingsValue) (m : MachineState) (u : ℕ) (h : Heap) : Type 0 where
  pub begun : (c : ℕ) → h.begun ≡ Some c → (c ≡ take_of m h) × (h.reserved ≡ 0)
  pub room : 0 < h.room → 0 < length h.chunks
  pub reserved : 0 < h.reserved → (w : ℕ) × (asked p m u ≡ Some w) × (is_small_size w ≡ false) × (h.reserved ≡ units w) × (h.since < s.leaf)
  pub full : Full m h.chunks
  pub last : last_words m h.chunks + h.room ≤ chunk_words

pub record BookedLedger (p : ProgramText) (s : SettingsValue) (l : Ledger) : Type 0 where
  pub each : (u : ℕ) (h : Heap) → slice_get l.heaps u ≡ Some h → Booked p s l.machine u h
  pub within : in_use l ≤ s.chunks

pub no_begun : {A : Type 0} (h : Heap) (c : ℕ) → is_some h.begun ≡ false → h.begun ≡ Some c → A
no_begun h c e is = absurd (false≢true (sym e ∙ ap is_some is))

-- a task runs whose next step allocates
asked_runs_by : (p : ProgramText) (m : MachineState) (o : Option Task) (w : ℕ) → asked_by p m o ≡ Some w → is_running o ≡ true
asked_runs_by p m None w e = absurd cc
asked_runs_by p m (Some x) w e = asked_runs_by_cases (is_running (Some x)) refl (subst (λ b. cond b (asked_line m.field_limit x.top (fetched p x.top)) None ≡ Some w) refl e)
  where
    asked_runs_by_cases : (b : Bool) → is_running (Some x) ≡ b → cond b (asked_line m.field_limit x.top (fetched p x.top)) None ≡ Some w → is_running (Some x) ≡ true
    asked_runs_by_cases true is q = is
    asked_runs_by_cases false is q = none_some q

pub asked_runs : (p : ProgramText) (m : MachineState) (u w : ℕ) → asked p m u ≡ Some w → is_running (slice_get m.tasks u) ≡ true
asked_runs p m u w e = asked_runs_by p m (slice_get m.tasks u) w e

asked_limit : (p : ProgramText) (m m' : MachineState) (o : Option Task) → m'.field_limit ≡ m.field_limit → asked_by p m' o ≡ asked_by p m o
asked_limit p m m' None e = refl
asked_limit p m m' (Some x) e = ap (λ k. cond (is_running (Some x)) (asked_line k x.top (fetched p x.top)) None) e

pub wait_run : (m : MachineState) (u : ℕ) → waiting m.tasks u ≡ true → is_running (slice_get m.tasks u) ≡ true → ⊥
wait_run m u w r = both_ways (is_running (slice_get m.tasks u)) (waiting_stops (slice_get m.tasks u) w) r

-- a step leaves the other running tasks unchanged
pub step_others : (p : ProgramText) (m : MachineState) (t u : ℕ) → IsForkJoinState m → (u ≡ t → ⊥) → is_running (slice_get m.tasks u) ≡ true → slice_get (step p m t).tasks u ≡ slice_get m.tasks u
step_others p m t u K ne run =
    step_cases p m t K (λ m'. slice_get m'.tasks u ≡ slice_get m.tasks u) refl (λ x e is r why. refl)
    (λ x y store outs is r ep ed es ej names fields alters grows. got_other m.tasks t u y ne)
    (λ x parent e is r pp which result. got_other m.tasks t u (ended_task x (result_of x.top)) ne)
    (λ x g h is r next top. grown_other m.tasks t x (record x { status = Waiting; top = onward x.top }) (child t (x.depth + 1) g x.top) (child t (x.depth + 1) h x.top) is u (within_by (slice_get m.tasks u) refl run) ne)
    (λ parent l xp xl xr rl rr ip il ir pl left dl dr wl wr nl nr side.
    three_other m.tasks l parent xl xr xp (joined_task xl) (joined_task xr) (resumed xp rl rr) il ir ip (below m.tasks m.edges l parent xl xr xp rl rr il ir ip pl left dl dr wl wr K.tree) u
    (λ e. elim side [ inl q ↦ ne (e ∙ sym q.0) | inr q ↦ both_ways (runs xl.status) q.3 (sym (ap is_running (ap (slice_get m.tasks) e ∙ il)) ∙ run) ])
    (λ e. elim side [ inl q ↦ both_ways (runs xr.status) q.3 (sym (ap is_running (ap (slice_get m.tasks) e ∙ ir)) ∙ run) | inr q ↦ ne (e ∙ sym q.0) ])
    (λ e. wait_run m parent (wp m.tasks m.edges l parent xl xr xp rl rr il ir ip pl left dl dr wl wr K.tree) (ap (λ v. is_running (slice_get m.tasks v)) (sym e) ∙ run)))
  where
    within_by : (o : Option Task) → slice_get m.tasks u ≡ o → is_running o ≡ true → u < length m.tasks
    within_by None e r = absurd (false≢true r)
    within_by (Some x) e r = got_within m.tasks u x e

-- STEPS

module _ (p : ProgramText) (s : SettingsValue) (l : Ledger) (t : ℕ) (S : SoundAt t l) (I : StockedLedger l) (B : BookedLedger p s l) (can : can_step l.machine t ≡ true) (fine : (is_due s p l t || is_in_need p l t) ≡ false) where
  abbrev m : MachineState
  m = l.machine

  abbrev m' : MachineState
  m' = step p l.machine t

  abbrev b : Ledger
  b = allocated_in p l t

  abbrev k : Ledger
  k = stepped_to (allocated_in p l t) t (step p l.machine t)

  abbrev pub heap : (h : Heap) × (slice_get l.heaps t ≡ Some h)
  heap = heap_of_task l t S.0 (can_tells l.machine t can).1

  abbrev grown : Grown p l.machine t
  grown = G p l t S I can

  leaves : StepLeaves t l (allocated_in p l t) (stepped_to (allocated_in p l t) t (step p l.machine t))
  leaves = L p l t S I can

  words_same : (u : ℕ) (h : Heap) (n : Name) → slice_get l.heaps u ≡ Some h → In (held_in h) n → words_at m' n ≡ words_at m n
  words_same u h n e i = grown.words n (I.stored n (u, subst (λ o. In (heap_names o) n) (sym e) i))

  take_same : (u : ℕ) (h : Heap) → slice_get l.heaps u ≡ Some h → take_of m' h ≡ take_of m h
  take_same u h e =
      ap (λ w. 2 * max 1 (units w) - 1) (sum_same (words_at m') (words_at m) (small_in h) (λ n i. words_same u h n e (in_append_left (small_in h) h.large n i)))

  pub units_same : (u : ℕ) (h : Heap) → slice_get l.heaps u ≡ Some h → units_in m' h ≡ units_in m h
  units_same u h e =
      ap (λ w. length h.chunks + w + h.reserved + begun_in h)
      (sum_same (λ n. units (words_at m' n)) (λ n. units (words_at m n)) h.large (λ n i. ap units (words_same u h n e (in_append_right (small_in h) h.large n i))))

  asked_same : (u w : ℕ) → (u ≡ t → ⊥) → asked p m u ≡ Some w → asked p m' u ≡ Some w
  asked_same u w ne e =
      ap (asked_by p m') (step_others p m t u S.0.fork_join ne (asked_runs p m u w e)) ∙ (asked_limit p m m' (slice_get m.tasks u) (step_limit p m t S.0.fork_join) ∙ e)

  small_same : (u : ℕ) (h : Heap) → slice_get l.heaps u ≡ Some h → (n : Name) → In (small_in h) n → words_at m' n ≡ words_at m n
  small_same u h e n i = words_same u h n e (in_append_left (small_in h) h.large n i)

  full_now : (u : ℕ) (h : Heap) → slice_get l.heaps u ≡ Some h → Full m' h.chunks
  full_now u h e = full_same m m' h.chunks (small_same u h e) (B.each u h e).full

  last_now : (u : ℕ) (h : Heap) → slice_get l.heaps u ≡ Some h → last_words m' h.chunks + h.room ≤ chunk_words
  last_now u h e = let a = last_same m m' h.chunks (small_same u h e) in let b = (B.each u h e).last in omega arith

  -- the heap of another task
  carried : (u : ℕ) (h : Heap) → (u ≡ t → ⊥) → slice_get l.heaps u ≡ Some h → Booked p s m' u h
  carried u h ne e =
      let B0 = B.each u h e in
      record {
        begun = λ c is. (let q = B0.begun c is in (q.0 ∙ sym (take_same u h e), q.1));
        room = B0.room;
        reserved = λ pos. (let q = B0.reserved pos in (q.0, asked_same u q.0 ne q.1, q.2, q.3, q.4));
        full = full_now u h e;
        last = last_now u h e;
      }

  idle_t : is_some heap.0.begun ≡ false
  idle_t = ap collecting (sym heap.1) ∙ S.1

  B_t : Booked p s l.machine t heap.0
  B_t = B.each t heap.0 heap.1

  -- the heap of the task that takes the step, which doesn't allocate
  still : asked p m t ≡ None → Booked p s m' t heap.0
  still e = record {
    begun = λ c is. no_begun heap.0 c idle_t is;
    room = B_t.room;
    reserved = λ pos. absurd (none_some (sym e ∙ (B_t.reserved pos).1));
    full = full_now t heap.0 heap.1;
    last = last_now t heap.0 heap.1;
  }

  abbrev next : Name
  next = next_name t l.machine.store

  -- an object has at least two words
  pub at_least : (w : ℕ) → asked p m t ≡ Some w → (2 ≤ w) × (words_at m' next ≤ w)
  at_least w e =
      let q = grown.new w e in
      let size : words_at m' next ≡ object_words_of (Some q.0.0) = ap object_words_of q.0.1 in
      let le : words_at m' next ≤ w = q.1 in
      (omega arith, le)

  pub lacks_at : (w : ℕ) → asked p m t ≡ Some w → lacks_room heap.0 w ≡ false
  lacks_at w e = ap (λ o. lacks_room (or_fresh o) w) (sym heap.1) ∙ (asked_bounds s (heap_of l t) (asked p m t) w e fine).1

  fits : (w : ℕ) → asked p m t ≡ Some w → nat_lt heap.0.room w ≡ false → last_words m' heap.0.chunks + words_at m' next ≤ chunk_words
  fits w e lacks =
      let a = (at_least w e).1 in
      let r : w ≤ heap.0.room = ltb-false heap.0.room w lacks in
      let d = last_now t heap.0 heap.1 in
      omega arith

  -- or allocates these words
  placed_by : (w : ℕ) → asked p m t ≡ Some w → (v : Bool) → is_small_size w ≡ v → cond v (nat_lt heap.0.room w) (not (heap.0.reserved == units w)) ≡ false
      → Booked p s m' t (cond v (record heap.0 { chunks = put_last heap.0.chunks next; room = heap.0.room - w; since = heap.0.since + w }) (record heap.0 { large = heap.0.large ++ next ∷ []; reserved = 0; since = heap.0.since + w }))
  placed_by w e true is lacks = record {
    begun = λ c q. no_begun heap.0 c idle_t q;
    room = λ pos. put_some heap.0.chunks next;
    reserved = λ pos. (let q = B_t.reserved pos in absurd (false≢true (sym q.2 ∙ (ap is_small_size (same_Some q.0 w (sym q.1 ∙ e)) ∙ is))));
    full = put_full m' heap.0.chunks next (full_now t heap.0 heap.1) (fits w e lacks);
    last = let a = put_last_words m' heap.0.chunks next in let c = fits w e lacks in let d = last_now t heap.0 heap.1 in let f = (at_least w e).1 in let r = ltb-false heap.0.room w lacks in omega arith;
  }
  placed_by w e false is lacks = record {
    begun = λ c q. no_begun heap.0 c idle_t q;
    room = B_t.room;
    reserved = λ pos. absurd (omega arith);
    full = full_now t heap.0 heap.1;
    last = last_now t heap.0 heap.1;
  }

  each_by : (o : Option ℕ) → asked p m t ≡ o → (u : ℕ) (h : Heap) → slice_get (allocated_by l t o).heaps u ≡ Some h → Booked p s m' u h
  each_by None e u h is = elim (cases_eq u t) [
    | inl same ↦
        let at : heap.0 ≡ h = same_Some heap.0 h (sym heap.1 ∙ (ap (slice_get l.heaps) (sym same) ∙ is)) in
        subst (λ v. Booked p s m' v h) (sym same) (subst (Booked p s m' t) at (still e))
    | inr ne ↦ carried u h ne is
  ]
  each_by (Some w) e u h is0 =
      let heaps1 : List Heap = slice_set l.heaps t (with_allocation heap.0 next w) in
      let is : slice_get heaps1 u ≡ Some h = ap (λ (q : Ledger). slice_get q.heaps u) (sym (ap (with_heap_at l t (λ g. with_allocation g next w)) heap.1)) ∙ is0 in
      elim (cases_eq u t) [
        | inl same ↦
            let at : with_allocation heap.0 next w ≡ h = same_Some (with_allocation heap.0 next w) h (sym (got_same l.heaps t heap.0 (with_allocation heap.0 next w) heap.1) ∙ (ap (slice_get heaps1) (sym same) ∙ is)) in
            subst (λ v. Booked p s m' v h) (sym same) (subst (Booked p s m' t) at (placed_by w e (is_small_size w) refl (lacks_at w e)))
        | inr ne ↦ carried u h ne (sym (got_other l.heaps t u (with_allocation heap.0 next w) ne) ∙ is)
      ]

  -- a parent that waits has no reserved chunk
  parent_none : (u : ℕ) (h : Heap) → slice_get b.heaps u ≡ Some h → waiting m.tasks u ≡ true → 0 < h.reserved → ⊥
  parent_none u h is w pos =
      let ne : u ≡ t → ⊥ = λ e. wait_run m t (ap (waiting m.tasks) (sym e) ∙ w) (can_tells m t can).1 in
      let old : slice_get l.heaps u ≡ Some h = old_by (asked p m t) ne is in
      let q = (B.each u h old).reserved pos in
      wait_run m u w (asked_runs p m u q.0 q.1)
    where
      old_by : (o : Option ℕ) → (u ≡ t → ⊥) → slice_get (allocated_by l t o).heaps u ≡ Some h → slice_get l.heaps u ≡ Some h
      old_by None ne e = e
      old_by (Some w') ne e =
          sym (got_other l.heaps t u (with_allocation heap.0 next w') ne) ∙ (ap (λ (q : Ledger). slice_get q.heaps u) (sym (ap (with_heap_at l t (λ g. with_allocation g next w')) heap.1)) ∙ e)

  merged_last : (xs ys : List (List Name)) (room : ℕ) → Full m' xs → (0 < room → 0 < length ys) → last_words m' ys + room ≤ chunk_words → last_words m' (xs ++ ys) + room ≤ chunk_words
  merged_last xs [] room F some h = let a = last_full m' (xs ++ []) (append_full m' xs [] F (λ ns i. absurd i)) in let z : room ≤ 0 = elim (cases_lt 0 room) [ inl pos ↦ let q = some pos in absurd (omega arith) | inr le ↦ le ] in omega arith
  merged_last xs (y ∷ ys) room F some h = let a = last_append m' xs (y ∷ ys) (omega arith) in omega arith

  each_k : (u : ℕ) (h : Heap) → slice_get k.heaps u ≡ Some h → Booked p s m' u h
  each_k =
      moves_each (Booked p s m') t m.tasks b.heaps k.heaps leaves.2 (each_by (asked p m t) refl)
      (λ h q. record { begun = q.begun; room = q.room; reserved = q.reserved; full = q.full; last = q.last })
      (λ u. record { begun = λ c e. no_begun fresh c refl e; room = λ pos. absurd (omega arith); reserved = λ pos. absurd (omega arith); full = λ ns i. absurd i; last = omega arith })
      (λ ns h q. record { begun = q.begun; room = q.room; reserved = q.reserved; full = q.full; last = q.last })
      (λ u h x y v z is w none q qx qy. record {
        begun = λ c e. no_begun h c none e;
        room = λ pos. (let a = q.room pos in omega (arith, length-append (x.chunks ++ y.chunks) h.chunks));
        reserved = λ pos. absurd (parent_none u h is w pos);
        full = append_full m' (x.chunks ++ y.chunks) h.chunks (append_full m' x.chunks y.chunks qx.full qy.full) q.full;
        last = merged_last (x.chunks ++ y.chunks) h.chunks h.room (append_full m' x.chunks y.chunks qx.full qy.full) q.room q.last;
      })
      (λ u h none q. record {
        begun = λ c e. no_begun h c none e;
        room = λ pos. absurd (omega arith);
        reserved = λ pos. (let a = q.reserved pos in (a.0, a.1, a.2, a.3, let lt : h.since < s.leaf = a.4 in omega arith));
        full = λ ns i. absurd i;
        last = omega arith;
      })

  -- CHUNKS IN USE

  placed_units : (w : ℕ) → asked p m t ≡ Some w → (v : Bool) → is_small_size w ≡ v → cond v (nat_lt heap.0.room w) (not (heap.0.reserved == units w)) ≡ false
      → units_in m' (cond v (record heap.0 { chunks = put_last heap.0.chunks next; room = heap.0.room - w; since = heap.0.since + w }) (record heap.0 { large = heap.0.large ++ next ∷ []; reserved = 0; since = heap.0.since + w })) ≤ units_in m' heap.0
  placed_units w e true is lacks =
      let a = (at_least w e).0 in
      let r : w ≤ heap.0.room = ltb-false heap.0.room w lacks in
      let c = B_t.room (omega arith) in
      let d = put_length heap.0.chunks next c in
      omega arith
  placed_units w e false is lacks =
      let a = (at_least w e).1 in
      let r : heap.0.reserved ≡ units w = eqb-true heap.0.reserved (units w) (holds (heap.0.reserved == units w) lacks) in
      let c = sum_by-append (λ n. units (words_at m' n)) heap.0.large (next ∷ []) in
      let d : sum_by (λ n. units (words_at m' n)) (next ∷ []) ≡ units (words_at m' next) = sum_by-cons (λ n. units (words_at m' n)) next [] ∙ omega arith in
      omega arith
    where
      holds : (v : Bool) → not v ≡ false → v ≡ true
      holds true q = refl
      holds false q = sym q

  use_by : (o : Option ℕ) → asked p m t ≡ o → total (units_in m') (allocated_by l t o).heaps ≤ total (units_in m) l.heaps
  use_by None e = let a = total_same (units_in m') (units_in m) l.heaps units_same in omega arith
  use_by (Some w) e =
      let a = total_same (units_in m') (units_in m) l.heaps units_same in
      let c = total_set (units_in m') l.heaps t heap.0 (with_allocation heap.0 next w) heap.1 in
      let d : units_in m' (with_allocation heap.0 next w) ≤ units_in m' heap.0 = placed_units w e (is_small_size w) refl (lacks_at w e) in
      let f : total (units_in m') (allocated_by l t (Some w)).heaps ≡ total (units_in m') (slice_set l.heaps t (with_allocation heap.0 next w)) = ap (λ (q : Ledger). total (units_in m') q.heaps) (ap (with_heap_at l t (λ g. with_allocation g next w)) heap.1) in
      omega arith

  use_k : total (units_in m') k.heaps ≤ s.chunks
  use_k =
      let a = moves_total (units_in m') (units_additive m') t m.tasks b.heaps k.heaps leaves.2 in
      let c = use_by (asked p m t) refl in
      let d : total (units_in m) l.heaps ≤ s.chunks = B.within in
      omega arith

  pub step_booked : BookedLedger p s k
  step_booked = record {
    each = subst (λ (q : MachineState). (u : ℕ) (h : Heap) → slice_get k.heaps u ≡ Some h → Booked p s q u h) (sym (stepped_machine b t m')) each_k;
    within = subst (λ (q : MachineState). total (units_in q) k.heaps ≤ s.chunks) (sym (stepped_machine b t m')) use_k;
  }

module _ (p : ProgramText) (s : SettingsValue) where
  pub task_step_booked : (l : Ledger) (t : ℕ) → SoundAt t l → StockedLedger l → BookedLedger p s l → (is_due s p l t || is_in_need p l t) ≡ false → BookedLedger p s (task_step p l t)
  task_step_booked l t S I B fine = step_keeps (BookedLedger p s) p l t (λ e. step_booked p s l t S I B e fine) (record { each = B.each; within = B.within })

  pub task_steps_booked : (k : ℕ) (l : Ledger) (t : ℕ) → SoundAt t l → StockedLedger l → BookedLedger p s l → k ≤ standing s p l t k → BookedLedger p s (task_steps p l t k)
  task_steps_booked zero l t S I B h = B
  task_steps_booked (suc k) l t S I B h =
      elim (stands_by p s t l k (is_due s p l t || is_in_need p l t) (is_private p l.machine t) (standing s p (task_step p l t) t k) h) [
        | inl f ↦ task_steps_booked k (task_step p l t) t (task_step_sound p l t S) (task_step_stocked p l t S I) (task_step_booked l t S I B f.0) f.1.1
        | inr f ↦
            subst (λ j. BookedLedger p s (task_steps p (task_step p l t) t j)) (sym f.1) (task_step_booked l t S I B f.0)
      ]
