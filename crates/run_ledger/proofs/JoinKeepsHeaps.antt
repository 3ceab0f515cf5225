-- What a step leaves; the join of two children keeps the invariant of heaps.
use Rattle.run_ledger.proofs.Common.{◌≡◌, ℕ, ℤ, ◌+◌, ◌-◌, ◌<◌, Bool, true, false, Option, Some, None, List, length, slice_get, slice_set, ◌⊎◌, inl, inr, refl, ap, ap₂, sym, subst, ◌∙◌, arith, length-set, is_some, cases_eq, both_ways, false≢true, cond-true, cond-false, fun_ext, In, got_same, got_other, got_within, got_some, Name, Task, MachineState, runs, waits, is_over, is_running, is_waiting, is_joined, is_left, parent_of, parents, joined, owner_in, owner_of, joined_task, resumed, child, join_of, owner_joins, waiting, running_tells, three_length, three_top, three_left, three_right, three_other, three_view, parl, parr, below, dp, wp, drest, IsForkJoinStateIn, Closed, Disentangled, Heap, Ledger, held_in, with_heap, with_heap_at, merged, emptied, or_fresh, join_heaps, at_join, moved_to, settled, stepped_to}
use Rattle.run_ledger.proofs.Held.{merged_cases, merged_left, merged_right, merged_own}
use Rattle.run_ledger.proofs.Moves.{Moves}
use Rattle.run_ledger.proofs.Sound.{heap_names, InHeaps, SomeHeapHas, Owners, Spares, collecting, snapshot_at, survivors_at, Sound, SoundLedger, closed_same}

pub heap_there : (tasks : List Task) (heaps : List Heap) (t : ℕ) → length heaps ≡ length tasks → t < length tasks → (h : Heap) × (slice_get heaps t ≡ Some h)
heap_there tasks heaps t len lt = got_some heaps t (omega arith)

-- the worker of the task of a heap
abbrev pub worker_at : Option Heap → Option ℕ
worker_at None = None
worker_at (Some h) = h.worker

-- the task after its step: the machine has ended, the task runs on, or nobody holds it
abbrev pub StandsAfter : ℕ → Ledger → Type 0
StandsAfter t k = (is_some k.machine.end ≡ true) ⊎ ((is_running (slice_get k.machine.tasks t) ≡ true) ⊎ (worker_at (slice_get k.heaps t) ≡ None))

-- the heaps of the other tasks that ran before or wait afterwards are unchanged
abbrev pub LeavesOthers : ℕ → Ledger → Ledger → Type 0
LeavesOthers t l k = (u : ℕ) → (u ≡ t → ⊥) → (is_running (slice_get l.machine.tasks u) ≡ true) ⊎ (waiting k.machine.tasks u ≡ true) → slice_get k.heaps u ≡ slice_get l.heaps u

-- the result of a step of such a task
abbrev pub StepLeaves : ℕ → Ledger → Ledger → Ledger → Type 0
StepLeaves t l b k = SoundLedger k × (collecting (slice_get k.heaps t) ≡ false) × Moves t l.machine.tasks b.heaps k.heaps × StandsAfter t k × LeavesOthers t l k

-- what has to be shown of a state after the step
abbrev pub Owes : ℕ → Ledger → Ledger → MachineState → Type 0
Owes t l b m' =
    IsForkJoinStateIn m'.tasks m'.edges m'.store → Disentangled m'.tasks m'.store → Closed m'.tasks m'.store (SomeHeapHas b.heaps)
    → ((u : ℕ) (ns : List Name) → (u ≡ t → ⊥) → Spares l.machine.tasks l.machine.store l.heaps u ns → Spares m'.tasks m'.store b.heaps u ns)
    → StepLeaves t l b (stepped_to b t m')

module _ (l : Ledger) (S : SoundLedger l) (t : ℕ) (going : l.machine.end ≡ None) (b : Ledger) (owners : Owners l.machine.tasks b.heaps)
    (idle : (u : ℕ) → collecting (slice_get b.heaps u) ≡ true → (u ≡ t → ⊥) × (collecting (slice_get l.heaps u) ≡ true)) (others : (u : ℕ) → (u ≡ t → ⊥) → slice_get b.heaps u ≡ slice_get l.heaps u) (long : length b.heaps ≡ length l.heaps) where
  abbrev tasks : List Task
  tasks = l.machine.tasks

  -- both children of a task have ended
  module _ (parent c : ℕ) (xp xl xr : Task) (rl rr : ℤ × Option Name) (ip : slice_get tasks parent ≡ Some xp) (il : slice_get tasks c ≡ Some xl) (ir : slice_get tasks (c + 1) ≡ Some xr)
      (pl : xl.parent ≡ Some parent) (left : is_left c ≡ true) (dl : is_over xl.status ≡ false) (dr : is_over xr.status ≡ false) (wl : waits xl.status ≡ false) (wr : waits xr.status ≡ false)
      (side : ((t ≡ c) × (is_left t ≡ true) × (runs xl.status ≡ true) × (runs xr.status ≡ false)) ⊎ ((t ≡ c + 1) × (is_left t ≡ false) × (runs xr.status ≡ true) × (runs xl.status ≡ false))) where
    abbrev mj : MachineState
    mj = join_of l.machine parent xp c xl xr rl rr

    abbrev after : List Task
    after = slice_set (slice_set (slice_set tasks c (joined_task xl)) (c + 1) (joined_task xr)) parent (resumed xp rl rr)

    abbrev aj : Ledger
    aj = record b { machine = mj; steps = b.steps + 1 }

    under : parent < c
    under = below tasks l.machine.edges c parent xl xr xp rl rr il ir ip pl left dl dr wl wr S.fork_join.tree

    up_l : parents tasks c ≡ Some parent
    up_l = parl tasks l.machine.edges c parent xl xr xp rl rr il ir ip pl left dl dr wl wr S.fork_join.tree

    up_r : parents tasks (c + 1) ≡ Some parent
    up_r = parr tasks l.machine.edges c parent xl xr xp rl rr il ir ip pl left dl dr wl wr S.fork_join.tree

    waits_p : waits xp.status ≡ true
    waits_p = ap is_waiting (sym ip) ∙ wp tasks l.machine.edges c parent xl xr xp rl rr il ir ip pl left dl dr wl wr S.fork_join.tree

    at_p : slice_get after parent ≡ Some (resumed xp rl rr)
    at_p = three_top tasks c parent xl xr xp (joined_task xl) (joined_task xr) (resumed xp rl rr) il ir ip under

    at_l : slice_get after c ≡ Some (joined_task xl)
    at_l = three_left tasks c parent xl xr xp (joined_task xl) (joined_task xr) (resumed xp rl rr) il ir ip under

    at_r : slice_get after (c + 1) ≡ Some (joined_task xr)
    at_r = three_right tasks c parent xl xr xp (joined_task xl) (joined_task xr) (resumed xp rl rr) il ir ip under

    at_o : (u : ℕ) → (u ≡ c → ⊥) → (u ≡ c + 1 → ⊥) → (u ≡ parent → ⊥) → slice_get after u ≡ slice_get tasks u
    at_o u nl nr np = three_other tasks c parent xl xr xp (joined_task xl) (joined_task xr) (resumed xp rl rr) il ir ip under u nl nr np

    rest : (u : ℕ) → (u ≡ c → ⊥) → (u ≡ c + 1 → ⊥) → joined after u ≡ joined tasks u
    rest = drest tasks l.machine.edges c parent xl xr xp rl rr il ir ip pl left dl dr wl wr S.fork_join.tree

    live_p : joined after parent ≡ false
    live_p = rest parent (λ e. let q : parent < c = under in omega arith) (λ e. let q : parent < c = under in omega arith)
        ∙ (ap is_joined ip ∙ dp tasks l.machine.edges c parent xl xr xp rl rr il ir ip pl left dl dr wl wr S.fork_join.tree)

    own_after : (a : ℕ) → owner_of after a ≡ owner_in (parents tasks) (joined after) a
    own_after a = ap (λ f. owner_in f (joined after) a) (fun_ext (three_view tasks c parent xl xr xp (joined_task xl) (joined_task xr) (resumed xp rl rr) il ir ip under parent_of refl refl refl))

    moves : (a : ℕ) → ((owner_of after a ≡ parent) × ((owner_of tasks a ≡ c) ⊎ (owner_of tasks a ≡ c + 1))) ⊎ ((owner_of after a ≡ owner_of tasks a) × ((owner_of tasks a ≡ c → ⊥) × (owner_of tasks a ≡ c + 1 → ⊥)))
    moves a =
        elim (owner_joins (parents tasks) S.fork_join.tree.low (joined tasks) (joined after) c (c + 1) parent up_l up_r (ap is_joined il ∙ dl) (ap is_joined ir ∙ dr) live_p (ap is_joined at_l) (ap is_joined at_r) rest a) [
          | inl k ↦ inl (own_after a ∙ k.0, k.1)
          | inr k ↦ inr (own_after a ∙ k.0, k.1)
        ]

    heap_is_there : (u : ℕ) (z : Task) → slice_get tasks u ≡ Some z → (h : Heap) × (slice_get b.heaps u ≡ Some h)
    heap_is_there u z e = heap_there tasks b.heaps u (long ∙ S.lengths) (got_within tasks u z e)

    abbrev hp : Heap
    hp = (heap_is_there parent xp ip).0

    abbrev hl : Heap
    hl = (heap_is_there c xl il).0

    abbrev hr : Heap
    hr = (heap_is_there (c + 1) xr ir).0

    e_p : slice_get b.heaps parent ≡ Some hp
    e_p = (heap_is_there parent xp ip).1

    e_l : slice_get b.heaps c ≡ Some hl
    e_l = (heap_is_there c xl il).1

    e_r : slice_get b.heaps (c + 1) ≡ Some hr
    e_r = (heap_is_there (c + 1) xr ir).1

    abbrev j2 : List Heap
    j2 = slice_set b.heaps parent (merged hp hl hr)

    abbrev j3 : List Heap
    j3 = slice_set j2 c (emptied hl)

    abbrev j4 : List Heap
    j4 = slice_set j3 (c + 1) (emptied hr)

    j2_l : slice_get j2 c ≡ Some hl
    j2_l = got_other b.heaps parent c (merged hp hl hr) (λ e. let q : parent < c = under in omega arith) ∙ e_l

    j3_r : slice_get j3 (c + 1) ≡ Some hr
    j3_r = got_other j2 c (c + 1) (emptied hl) (λ e. omega arith) ∙ (got_other b.heaps parent (c + 1) (merged hp hl hr) (λ e. let q : parent < c = under in omega arith) ∙ e_r)

    j4_p : slice_get j4 parent ≡ Some (merged hp hl hr)
    j4_p =
        got_other j3 (c + 1) parent (emptied hr) (λ e. let q : parent < c = under in omega arith)
        ∙ (got_other j2 c parent (emptied hl) (λ e. let q : parent < c = under in omega arith) ∙ got_same b.heaps parent hp (merged hp hl hr) e_p)

    j4_l : slice_get j4 c ≡ Some (emptied hl)
    j4_l = got_other j3 (c + 1) c (emptied hr) (λ e. omega arith) ∙ got_same j2 c hl (emptied hl) j2_l

    j4_r : slice_get j4 (c + 1) ≡ Some (emptied hr)
    j4_r = got_same j3 (c + 1) hr (emptied hr) j3_r

    abbrev Other : ℕ → Type 0
    Other u = (u ≡ c → ⊥) × (u ≡ c + 1 → ⊥) × (u ≡ parent → ⊥)

    j4_o : (u : ℕ) → Other u → slice_get j4 u ≡ slice_get b.heaps u
    j4_o u ne = got_other j3 (c + 1) u (emptied hr) ne.1 ∙ (got_other j2 c u (emptied hl) ne.0 ∙ got_other b.heaps parent u (merged hp hl hr) ne.2)

    -- one of the three tasks, or another
    which : (u : ℕ) → (u ≡ parent) ⊎ ((u ≡ c) ⊎ ((u ≡ c + 1) ⊎ Other u))
    which u = elim (cases_eq u parent) [
      | inl e ↦ inl e
      | inr np ↦ elim (cases_eq u c) [ inl e ↦ inr (inl e) | inr nl ↦ elim (cases_eq u (c + 1)) [ inl e ↦ inr (inr (inl e)) | inr nr ↦ inr (inr (inr (nl, nr, np))) ] ]
    ]

    not_t : (u : ℕ) → Other u → u ≡ t → ⊥
    not_t u ne e = elim side [ inl s ↦ ne.0 (e ∙ s.0) | inr s ↦ ne.1 (e ∙ s.0) ]

    at_named : (u : ℕ) (n : Name) (hs : List Heap) (k : ℕ) (h : Heap) → u ≡ k → slice_get hs k ≡ Some h → InHeaps hs u n → In (held_in h) n
    at_named u n hs k h e is' i = subst (λ o. In (heap_names o) n) is' (subst (λ v. InHeaps hs v n) e i)

    named_at : (u : ℕ) (n : Name) (hs : List Heap) (h : Heap) → slice_get hs u ≡ Some h → In (held_in h) n → InHeaps hs u n
    named_at u n hs h is' i = subst (λ o. In (heap_names o) n) (sym is') i

    abbrev Came : ℕ → Name → Type 0
    Came u n = (v : ℕ) × InHeaps b.heaps v n × (((u ≡ parent) × ((v ≡ parent) ⊎ ((v ≡ c) ⊎ (v ≡ c + 1)))) ⊎ ((u ≡ v) × Other u))

    down4 : (u : ℕ) (n : Name) → InHeaps j4 u n → Came u n
    down4 u n i = elim (which u) [
      | inl e ↦ elim (merged_cases hp hl hr n (at_named u n j4 parent (merged hp hl hr) e j4_p i)) [
        | inl q ↦ (c, named_at c n b.heaps hl e_l q, inl (e, inr (inl refl)))
        | inr q ↦ elim q [
          | inl q' ↦ (c + 1, named_at (c + 1) n b.heaps hr e_r q', inl (e, inr (inr refl)))
          | inr q' ↦ (parent, named_at parent n b.heaps hp e_p q', inl (e, inl refl))
        ]
      ]
      | inr more ↦ elim more [
        | inl e ↦ absurd (at_named u n j4 c (emptied hl) e j4_l i)
        | inr more' ↦ elim more' [
          | inl e ↦ absurd (at_named u n j4 (c + 1) (emptied hr) e j4_r i)
          | inr ne ↦ (u, subst (λ o. In (heap_names o) n) (j4_o u ne) i, inr (refl, ne))
        ]
      ]
    ]

    up_other : (u : ℕ) (n : Name) → Other u → InHeaps b.heaps u n → InHeaps j4 u n
    up_other u n ne i = subst (λ o. In (heap_names o) n) (sym (j4_o u ne)) i

    up4 : (v : ℕ) (n : Name) → InHeaps b.heaps v n → SomeHeapHas j4 n
    up4 v n i = elim (which v) [
      | inl e ↦ (parent, named_at parent n j4 (merged hp hl hr) j4_p (merged_own hp hl hr n (at_named v n b.heaps parent hp e e_p i)))
      | inr more ↦ elim more [
        | inl e ↦ (parent, named_at parent n j4 (merged hp hl hr) j4_p (merged_left hp hl hr n (at_named v n b.heaps c hl e e_l i)))
        | inr more' ↦ elim more' [
          | inl e ↦ (parent, named_at parent n j4 (merged hp hl hr) j4_p (merged_right hp hl hr n (at_named v n b.heaps (c + 1) hr e e_r i)))
          | inr ne ↦ (v, up_other v n ne i)
        ]
      ]
    ]

    down_keeps : (n : Name) → SomeHeapHas j4 n → SomeHeapHas b.heaps n
    down_keeps n k = let d = down4 k.0 n k.1 in (d.0, d.1)

    down_other : (u : ℕ) (n : Name) → Other u → InHeaps j4 u n → InHeaps b.heaps u n
    down_other u n ne i = subst (λ o. In (heap_names o) n) (j4_o u ne) i

    to4 : (u : ℕ) (ns : List Name) → Other u → Spares after l.machine.store b.heaps u ns → Spares after l.machine.store j4 u ns
    to4 u ns ne sp =
        closed_same after l.machine.store _ _ (λ n kf. (up4 kf.0.0 n kf.0.1, λ i. kf.1 (down_other u n ne i))) (λ n kf. (down_keeps n kf.0, λ i. kf.1 (up_other u n ne i))) sp

    owner_by_came : (u : ℕ) (n : Name) → Came u n → owner_of after n.task ≡ u
    owner_by_came u n d =
        let o : owner_of tasks n.task ≡ d.0 = (owners d.0 n d.1).1 in
        elim (moves n.task) [
          | inl mv ↦ elim (d.2) [
            | inl q ↦ mv.0 ∙ sym q.0
            | inr q ↦ elim (mv.1) [ inl e ↦ absurd (q.1.0 (q.0 ∙ (sym o ∙ e))) | inr e ↦ absurd (q.1.1 (q.0 ∙ (sym o ∙ e))) ]
          ]
          | inr mv ↦ elim (d.2) [
            | inl q ↦ elim (q.1) [
              | inl e ↦ mv.0 ∙ (o ∙ (e ∙ sym q.0))
              | inr e ↦ elim e [ inl e' ↦ absurd (mv.1.0 (o ∙ e')) | inr e' ↦ absurd (mv.1.1 (o ∙ e')) ]
            ]
            | inr q ↦ mv.0 ∙ (o ∙ sym q.0)
          ]
        ]

    long_after : length after ≡ length tasks
    long_after = three_length tasks c parent xl xr xp (joined_task xl) (joined_task xr) (resumed xp rl rr) il ir ip under

    owners4 : Owners after j4
    owners4 u n i = let d = down4 u n i in (subst (λ k. n.task < k) (sym long_after) (owners d.0 n d.1).0, owner_by_came u n d)

    stops_p : runs xp.status ≡ false
    stops_p = false_if (runs xp.status) refl
      where
        false_if : (v : Bool) → runs xp.status ≡ v → runs xp.status ≡ false
        false_if true e = absurd (both_ways (waits xp.status) (running_tells xp.status e).1 waits_p)
        false_if false e = e

    idle_heap : (q : ℕ) (z : Task) (h : Heap) → slice_get tasks q ≡ Some z → slice_get b.heaps q ≡ Some h → (q ≡ t) ⊎ (runs z.status ≡ false) → is_some h.begun ≡ false
    idle_heap q z h e at why = idle_heap_by_cases (is_some h.begun) refl
      where
        ends_at : (q ≡ t) ⊎ (runs z.status ≡ false) → collecting (slice_get b.heaps q) ≡ true → ⊥
        ends_at (inl same) c' = (idle q c').0 same
        ends_at (inr no_run) c' = both_ways (runs z.status) no_run (ap is_running (sym e) ∙ S.running q (idle q c').1)

        idle_heap_by_cases : (v : Bool) → is_some h.begun ≡ v → is_some h.begun ≡ false
        idle_heap_by_cases false e' = e'
        idle_heap_by_cases true e' = absurd (ends_at why (ap collecting at ∙ e'))

    collects4 : (u : ℕ) → collecting (slice_get j4 u) ≡ true → Other u × (collecting (slice_get l.heaps u) ≡ true)
    collects4 u q = elim (which u) [
      | inl e ↦ absurd (both_ways (collecting (slice_get b.heaps parent))
          (no (collecting (slice_get b.heaps parent)) refl) (ap collecting e_p ∙ (ap collecting (sym j4_p) ∙ (ap (λ v. collecting (slice_get j4 v)) (sym e) ∙ q))))
      | inr more ↦ elim more [
        | inl e ↦ absurd (child_stops c xl il (elim side [ inl s ↦ inl (sym s.0) | inr s ↦ inr s.3 ]) (ap collecting e_l ∙ (ap collecting (sym j4_l) ∙ (ap (λ v. collecting (slice_get j4 v)) (sym e) ∙ q))))
        | inr more' ↦ elim more' [
          | inl e ↦ absurd (child_stops (c + 1) xr ir (elim side [ inl s ↦ inr s.3 | inr s ↦ inl (sym s.0) ]) (ap collecting e_r ∙ (ap collecting (sym j4_r) ∙ (ap (λ v. collecting (slice_get j4 v)) (sym e) ∙ q))))
          | inr ne ↦ (ne, (idle u (ap collecting (sym (j4_o u ne)) ∙ q)).1)
        ]
      ]
    ]
      where
        no : (v : Bool) → collecting (slice_get b.heaps parent) ≡ v → collecting (slice_get b.heaps parent) ≡ false
        no false e = e
        no true e = absurd (both_ways (runs xp.status) stops_p (ap is_running (sym ip) ∙ S.running parent (idle parent e).1))

        child_stops : (k : ℕ) (z : Task) → slice_get tasks k ≡ Some z → (k ≡ t) ⊎ (runs z.status ≡ false) → collecting (slice_get b.heaps k) ≡ true → ⊥
        child_stops k z e (inl same) q' = (idle k q').0 same
        child_stops k z e (inr no_run) q' = both_ways (runs z.status) no_run (ap is_running (sym e) ∙ S.running k (idle k q').1)

    waits4 : (u : ℕ) → waiting after u ≡ true → Other u × (waiting tasks u ≡ true)
    waits4 u w = elim (which u) [
      | inl e ↦ absurd (false≢true (sym (ap (waiting after) e ∙ ap is_waiting at_p) ∙ w))
      | inr more ↦ elim more [
        | inl e ↦ absurd (false≢true (sym (ap (waiting after) e ∙ ap is_waiting at_l) ∙ w))
        | inr more' ↦ elim more' [
          | inl e ↦ absurd (false≢true (sym (ap (waiting after) e ∙ ap is_waiting at_r) ∙ w))
          | inr ne ↦ (ne, ap is_waiting (sym (at_o u ne.0 ne.1 ne.2)) ∙ w)
        ]
      ]
    ]

    runs4 : (u : ℕ) → (u ≡ t → ⊥) → is_running (slice_get tasks u) ≡ true → Other u
    runs4 u ne r = (
      λ e. elim side [ inl s ↦ ne (e ∙ sym s.0) | inr s ↦ both_ways (runs xl.status) s.3 (ap is_running (sym (ap (slice_get tasks) e ∙ il)) ∙ r) ],
      λ e. elim side [ inl s ↦ both_ways (runs xr.status) s.3 (ap is_running (sym (ap (slice_get tasks) e ∙ ir)) ∙ r) | inr s ↦ ne (e ∙ sym s.0) ],
      λ e. both_ways (runs xp.status) stops_p (ap is_running (sym (ap (slice_get tasks) e ∙ ip)) ∙ r),
    )

    join_sound : IsForkJoinStateIn after mj.edges l.machine.store → Disentangled after l.machine.store → Closed after l.machine.store (SomeHeapHas b.heaps)
        → ((u : ℕ) (ns : List Name) → (u ≡ t → ⊥) → Spares tasks l.machine.store l.heaps u ns → Spares after l.machine.store b.heaps u ns) → Sound after mj.edges l.machine.store j4
    join_sound K D C sp = record {
      fork_join = K;
      apart = D;
      lengths = length-set j3 (c + 1) (emptied hr) ∙ (length-set j2 c (emptied hl) ∙ (length-set b.heaps parent (merged hp hl hr) ∙ (long ∙ (S.lengths ∙ sym long_after))));
      owners = owners4;
      running = λ u q. (let r = collects4 u q in ap is_running (at_o u r.0.0 r.0.1 r.0.2) ∙ S.running u r.1);
      all = closed_same after l.machine.store _ _ (λ n k. up4 k.0 n k.1) (λ n k. down_keeps n k) C;
      waits = λ u w. (let r = waits4 u w in
          subst (λ o. Spares after l.machine.store j4 u (snapshot_at o)) (sym (j4_o u r.0 ∙ others u (not_t u r.0))) (to4 u _ r.0 (sp u _ (not_t u r.0) (S.waits u r.1))));
      collects = λ u q. (let r = collects4 u q in
          subst (λ o. Spares after l.machine.store j4 u (survivors_at o)) (sym (j4_o u r.0 ∙ others u (not_t u r.0))) (to4 u _ r.0 (sp u _ (not_t u r.0) (S.collects u r.1))));
    }

    heaps_join : join_heaps aj parent c ≡ record aj { heaps = j4 }
    heaps_join =
        ap (λ k. with_heap (with_heap k c emptied) (c + 1) emptied)
        (ap₂ (λ u v. with_heap aj parent (λ h. merged h (or_fresh u) (or_fresh v))) e_l e_r ∙ ap (with_heap_at aj parent (λ h. merged h hl hr)) e_p)
        ∙ (ap (λ k. with_heap k (c + 1) emptied) (ap (with_heap_at (record aj { heaps = j2 }) c emptied) j2_l)
        ∙ ap (with_heap_at (record aj { heaps = j3 }) (c + 1) emptied) j3_r)

    finish_join : stepped_to b t mj ≡ join_heaps aj parent c
    finish_join = ap (settled aj t) going ∙ elim side [
      | inl s ↦
          ap (moved_to aj t) (ap (slice_get after) s.0 ∙ at_l)
          ∙ (ap (at_join aj t) pl ∙ ap (join_heaps aj parent) (cond-true (is_left t) t (t - 1) s.1 ∙ s.0))
      | inr s ↦
          ap (moved_to aj t) (ap (slice_get after) s.0 ∙ at_r)
          ∙ (ap (at_join aj t) (ap parent_of (sym ir) ∙ up_r) ∙ ap (join_heaps aj parent) (cond-false (is_left t) t (t - 1) s.1 ∙ (let e : t ≡ c + 1 = s.0 in let d : t - 1 ≡ c = omega arith in d)))
    ]

    pub join_case : Owes t l b mj
    join_case K D C sp = subst (StepLeaves t l b) (sym (finish_join ∙ heaps_join)) (
      join_sound K D C sp,
      stops (collecting (slice_get j4 t)) refl,
      inr (inr (inr (record {
        parent = parent;
        child = c;
        own = hp;
        left = hl;
        right = hr;
        under = under;
        waits = wp tasks l.machine.edges c parent xl xr xp rl rr il ir ip pl left dl dr wl wr S.fork_join.tree;
        idle_parent = idle_heap parent xp hp ip e_p (inr stops_p);
        idle_left = idle_heap c xl hl il e_l (elim side [ inl s ↦ inl (sym s.0) | inr s ↦ inr s.3 ]);
        idle_right = idle_heap (c + 1) xr hr ir e_r (elim side [ inl s ↦ inr s.3 | inr s ↦ inl (sym s.0) ]);
        at_parent = e_p;
        at_left = e_l;
        at_right = e_r;
        is = refl;
      }))),
      inr (inr (elim side [ inl s ↦ ap (λ v. worker_at (slice_get j4 v)) s.0 ∙ ap worker_at j4_l | inr s ↦ ap (λ v. worker_at (slice_get j4 v)) s.0 ∙ ap worker_at j4_r ])),
      λ u ne w. let o : Other u = elim w [ inl r ↦ runs4 u ne r | inr q ↦ (waits4 u q).0 ] in j4_o u o ∙ others u ne,
    )
      where
        stops : (v : Bool) → collecting (slice_get j4 t) ≡ v → collecting (slice_get j4 t) ≡ false
        stops false e = e
        stops true e = absurd (not_t t (collects4 t e).0 refl)
