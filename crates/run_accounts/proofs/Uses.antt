-- The count of the chunks in use, as it is updated from entry to entry and from step to step.
use Rattle.run_accounts.proofs.Common.{◌≡◌, ℕ, zero, suc, ◌+◌, ◌-◌, ◌≤◌, ◌==◌, ◌||◌, not, Bool, true, false, cond, Option, Some, None, List, [], ◌∷◌, ◌++◌, length, slice_get, slice_set, sum_by, nat_lt, refl, ap, sym, ◌∙◌, arith, map, ltb-false, sum_by-append, sum_by-cons, SettingsValue, ProgramText, Name, MachineState, step, can_step, asked, next_name, Heap, Ledger, units, is_small_size, words_at, units_sum, begun_in, units_in, fresh, heap_of, or_fresh, with_heap_at, in_use, with_allocation, put_last, collected, large_survivors, swept_heap, sweep_number, in_snapshot, without_empty, allocated_by, allocated_in, stepped_to, task_step, is_due, is_in_need, stepped_machine, SoundAt, StepLeaves, total, total_set, moves_total, StockedLedger, L, BookedLedger, put_length, total_same, units_additive, survivors_units, snapshot_units, fewer_chunks, large_by, next_large, used_by, used_after}
use Rattle.run_ledger.proofs.Booked as booked

-- one heap has no more than all heaps
pub one_of : (f : Heap → ℕ) (heaps : List Heap) (u : ℕ) → f fresh ≡ 0 → f (or_fresh (slice_get heaps u)) ≤ total f heaps
one_of f [] u z = omega arith
one_of f (h ∷ heaps) zero z = let a = sum_by-cons f h heaps in omega arith
one_of f (h ∷ heaps) (suc u) z = let a = sum_by-cons f h heaps in let b = one_of f heaps u z in omega arith

-- A STEP

module _ (p : ProgramText) (s : SettingsValue) (l : Ledger) (t : ℕ) (S : SoundAt t l) (I : StockedLedger l) (B : BookedLedger p s l) (fine : (is_due s p l t || is_in_need p l t) ≡ false) where
  module _ (can : can_step l.machine t ≡ true) where
    abbrev m : MachineState
    m = l.machine

    abbrev m' : MachineState
    m' = step p l.machine t

    abbrev b : Ledger
    b = allocated_in p l t

    abbrev k : Ledger
    k = stepped_to (allocated_in p l t) t (step p l.machine t)

    abbrev heap : (h : Heap) × (slice_get l.heaps t ≡ Some h)
    heap = booked.heap p s l t S I B can fine

    abbrev leaves : StepLeaves t l (allocated_in p l t) (stepped_to (allocated_in p l t) t (step p l.machine t))
    leaves = L p l t S I can

    abbrev next : Name
    next = next_name t l.machine.store

    abbrev large_at : Bool → Option Name
    large_at v = cond v None (Some next)

    placed_units : (w : ℕ) → asked p m t ≡ Some w → (v : Bool) → is_small_size w ≡ v → cond v (nat_lt heap.0.room w) (not (heap.0.reserved == units w)) ≡ false
        → units_in m' (cond v (record heap.0 { chunks = put_last heap.0.chunks next; room = heap.0.room - w; since = heap.0.since + w }) (record heap.0 { large = heap.0.large ++ next ∷ []; reserved = 0; since = heap.0.since + w })) ≡ used_by (units_in m' heap.0) heap.0.reserved m' (large_at v)
    placed_units w e true is lacks =
        let a = (booked.at_least p s l t S I B can fine w e).0 in
        let r : w ≤ heap.0.room = ltb-false heap.0.room w lacks in
        let c = (B.each t heap.0 heap.1).room (omega arith) in
        let d = put_length heap.0.chunks next c in
        omega arith
    placed_units w e false is lacks =
        let c = sum_by-append (λ n. units (words_at m' n)) heap.0.large (next ∷ []) in
        let d : sum_by (λ n. units (words_at m' n)) (next ∷ []) ≡ units (words_at m' next) = sum_by-cons (λ n. units (words_at m' n)) next [] ∙ omega arith in
        omega arith

    use_by : (o : Option ℕ) → asked p m t ≡ o → total (units_in m') (allocated_by l t o).heaps ≡ used_by (in_use l) heap.0.reserved m' (large_by l t o)
    use_by None e = total_same (units_in m') (units_in m) l.heaps (booked.units_same p s l t S I B can fine)
    use_by (Some w) e =
        let a = total_same (units_in m') (units_in m) l.heaps (booked.units_same p s l t S I B can fine) in
        let c = total_set (units_in m') l.heaps t heap.0 (with_allocation heap.0 next w) heap.1 in
        let d : units_in m' (with_allocation heap.0 next w) ≡ used_by (units_in m' heap.0) heap.0.reserved m' (large_at (is_small_size w)) = placed_units w e (is_small_size w) refl (booked.lacks_at p s l t S I B can fine w e) in
        let f : total (units_in m') (allocated_by l t (Some w)).heaps ≡ total (units_in m') (slice_set l.heaps t (with_allocation heap.0 next w)) = ap (λ (q : Ledger). total (units_in m') q.heaps) (ap (with_heap_at l t (λ g. with_allocation g next w)) heap.1) in
        let g : units_in m' (or_fresh (slice_get l.heaps t)) ≤ total (units_in m') l.heaps = one_of (units_in m') l.heaps t refl in
        let h : units_in m' (or_fresh (slice_get l.heaps t)) ≡ units_in m' heap.0 = ap (λ o. units_in m' (or_fresh o)) heap.1 in
        f ∙ use_by_cases (is_small_size w) (units_in m' (with_allocation heap.0 next w)) d c a g h
      where
        use_by_cases : (v : Bool) (after : ℕ) → after ≡ used_by (units_in m' heap.0) heap.0.reserved m' (large_at v)
            → total (units_in m') (slice_set l.heaps t (with_allocation heap.0 next w)) + units_in m' heap.0 ≡ total (units_in m') l.heaps + after → total (units_in m') l.heaps ≡ in_use l
            → units_in m' (or_fresh (slice_get l.heaps t)) ≤ total (units_in m') l.heaps → units_in m' (or_fresh (slice_get l.heaps t)) ≡ units_in m' heap.0
            → total (units_in m') (slice_set l.heaps t (with_allocation heap.0 next w)) ≡ used_by (in_use l) heap.0.reserved m' (large_at v)
        use_by_cases true after d c a g h = omega arith
        use_by_cases false after d c a g h = omega arith

    use_k : used_by (in_use l) (heap_of l t).reserved m' (next_large p l t) ≡ in_use k
    use_k =
        let a = moves_total (units_in m') (units_additive m') t m.tasks b.heaps k.heaps leaves.2 in
        let c = use_by (asked p m t) refl in
        let d : in_use k ≡ total (units_in m') k.heaps = ap (λ (q : MachineState). total (units_in q) k.heaps) (stepped_machine b t m') in
        ap (λ o. used_by (in_use l) (or_fresh o).reserved m' (next_large p l t)) heap.1 ∙ (sym c ∙ (sym a ∙ sym d))

  -- the count of the chunks in use after a step is right
  pub step_used : used_after p l t ≡ in_use (task_step p l t)
  step_used = step_used_by_cases (can_step l.machine t) refl
    where
      step_used_by_cases : (v : Bool) → can_step l.machine t ≡ v → cond v (used_by (in_use l) (heap_of l t).reserved (step p l.machine t) (next_large p l t)) (in_use l)
          ≡ in_use (cond v (stepped_to (allocated_in p l t) t (step p l.machine t)) (record l { steps = l.steps + 1 }))
      step_used_by_cases true e = use_k e
      step_used_by_cases false e = refl

-- ENTRIES

-- one heap's account changes
pub use_set : (l : Ledger) (t : ℕ) (h h' : Heap) → slice_get l.heaps t ≡ Some h → in_use (record l { heaps = slice_set l.heaps t h' }) + units_in l.machine h ≡ in_use l + units_in l.machine h'
use_set l t h h' e = total_set (units_in l.machine) l.heaps t h h' e

pub use_least : (l : Ledger) (t : ℕ) (h : Heap) → slice_get l.heaps t ≡ Some h → units_in l.machine h ≤ in_use l
use_least l t h e = let a = one_of (units_in l.machine) l.heaps t refl in let b = ap (λ o. units_in l.machine (or_fresh o)) e in omega arith

-- a leaf collection ends
pub use_collected : (l : Ledger) (t : ℕ) (h : Heap) → slice_get l.heaps t ≡ Some h → (given : ℕ)
    → given ≡ length h.chunks + (begun_in h - length (collected l.machine h).chunks) + (units_sum l.machine h.large - units_sum l.machine (collected l.machine h).large)
    → in_use (record l { heaps = slice_set l.heaps t (collected l.machine h) }) ≡ in_use l + (length (collected l.machine h).chunks - begun_in h) - given
use_collected l t h e given is =
    let after : Heap = collected l.machine h in
    let a = use_set l t h after e in
    let b = use_least l t h e in
    let c : units_sum l.machine after.large ≤ units_sum l.machine h.large = survivors_units l.machine h (large_survivors h) refl in
    let g : begun_in after ≡ 0 = refl in
    omega arith

-- a sweep
pub use_swept : (l : Ledger) (t : ℕ) (h : Heap) → slice_get l.heaps t ≡ Some h → in_use (record l { heaps = slice_set l.heaps t (swept_heap h) }) ≡ in_use l - sweep_number l.machine h
use_swept l t h e =
    let after : Heap = swept_heap h in
    let a = use_set l t h after e in
    let b = use_least l t h e in
    let c : units_sum l.machine after.large ≤ units_sum l.machine h.large = snapshot_units l.machine h (in_snapshot h h.large) refl in
    let d : length after.chunks ≤ length h.chunks = fewer_chunks h (without_empty (map (in_snapshot h) h.chunks)) refl in
    omega arith
