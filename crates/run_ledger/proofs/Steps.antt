-- A step of a task keeps the invariant of heaps.
use Rattle.run_ledger.proofs.Common.{◌≡◌, ℕ, ℤ, zero, suc, ◌+◌, ◌<◌, ◌≤◌, Bool, true, false, cond, Option, Some, None, List, [], ◌∷◌, ◌++◌, length, slice_get, slice_set, ◌⊎◌, inl, inr, refl, ap, sym, subst, ◌∙◌, arith, length-set, length-append, is_some, cases_eq, cases_lt, both_ways, false≢true, same_Some, fun_ext, In, got_same, got_other, got_front, got_past, got_within, same_view, in_append_left, ProgramText, Name, TaskStatus, Running, Waiting, Ended, Joined, Task, Done, MachineState, onward, int_in, ref_in, names_of_references, registers, names_from, task_names, runs, waits, is_over, is_running, is_waiting, is_joined, parent_of, parents, joined, owner_in, owner_of, is_on_path, child, step, can_step, goes_on, asked, ended_task, result_of, ended_by, strand, strand_of, edge, owner_le, owner_same, path_same, not_above, owner_not_joined, next_name, named_from_in, waiting, running_tells, grown_length, grown_view, grown_view_front, grown_at, grown_other, wrest_fork, below, IsForkJoinStateIn, step_is_fork_join_state, step_cases, runs_is, register_cases, Closed, closed_step, grown_cases, owner_here, Disentangled, disentangled_step, Heap, Ledger, frames_of, within, with_allocation, with_heap_at, fresh, let_go, forked_heap, allocated_by, allocated_in, moved_on, moved_to, settled, stepped_to, task_step, task_steps}
use Rattle.path_laws.specs.below.hh_model.{End}
use Rattle.run_ledger.proofs.Held.{placed_cases, placed_old, placed_new, placed_begun}
use Rattle.run_ledger.proofs.Sound.{heap_names, InHeaps, SomeHeapHas, Owners, Spares, collecting, snapshot_at, survivors_at, Sound, SoundLedger, closed_same, frozen, renewed}
pub use Rattle.run_ledger.specs.Sound.{SoundAt}
use Rattle.run_ledger.proofs.JoinKeepsHeaps.{Owes, join_case}
pub use Rattle.run_ledger.proofs.JoinKeepsHeaps.{StepLeaves, heap_there, worker_at}

-- the heaps after the account of an allocation
pub record Allots (t : ℕ) (next : Name) (does : Bool) (heaps heaps1 : List Heap) : Type 0 where
  pub down : (u : ℕ) (n : Name) → InHeaps heaps1 u n → InHeaps heaps u n ⊎ ((u ≡ t) × (n ≡ next))
  pub up : (u : ℕ) (n : Name) → InHeaps heaps u n → InHeaps heaps1 u n
  pub new : does ≡ true → InHeaps heaps1 t next
  pub others : (u : ℕ) → (u ≡ t → ⊥) → slice_get heaps1 u ≡ slice_get heaps u
  pub long : length heaps1 ≡ length heaps
  pub still : collecting (slice_get heaps1 t) ≡ collecting (slice_get heaps t)

pub allots : (l : Ledger) (t : ℕ) (h : Heap) → slice_get l.heaps t ≡ Some h → (o : Option ℕ) → Allots t (next_name t l.machine.store) (is_some o) l.heaps (allocated_by l t o).heaps
allots l t h is None = record {
  down = λ u n i. inl i;
  up = λ u n i. i;
  new = λ e. absurd (false≢true e);
  others = λ u ne. refl;
  long = refl;
  still = refl;
}
allots l t h is (Some w) = subst (λ (k : Ledger). Allots t next true l.heaps k.heaps) (sym (ap (with_heap_at l t (λ h. with_allocation h next w)) is)) (record {
  down = λ u n i. elim (cases_eq u t) [
    | inl e ↦ elim (placed_cases h next w n (subst (λ o. In (heap_names o) n) allots_at (subst (λ v. InHeaps heaps1 v n) e i))) [
      | inl old ↦ inl (subst (λ v. InHeaps l.heaps v n) (sym e) (subst (λ o. In (heap_names o) n) (sym is) old))
      | inr new ↦ inr (e, sym new)
    ]
    | inr ne ↦ inl (subst (λ o. In (heap_names o) n) (got_other l.heaps t u h1 ne) i)
  ];
  up = λ u n i. elim (cases_eq u t) [
    | inl e ↦ subst (λ v. InHeaps heaps1 v n) (sym e) (subst (λ o. In (heap_names o) n) (sym allots_at) (placed_old h next w n (subst (λ o. In (heap_names o) n) is (subst (λ v. InHeaps l.heaps v n) e i))))
    | inr ne ↦ subst (λ o. In (heap_names o) n) (sym (got_other l.heaps t u h1 ne)) i
  ];
  new = λ e. subst (λ o. In (heap_names o) next) (sym allots_at) (placed_new h next w);
  others = λ u ne. got_other l.heaps t u h1 ne;
  long = length-set l.heaps t h1;
  still = ap collecting allots_at ∙ (begun_same ∙ sym (ap collecting is));
})
  where
    next : Name
    next = next_name t l.machine.store

    h1 : Heap
    h1 = with_allocation h (next_name t l.machine.store) w

    heaps1 : List Heap
    heaps1 = slice_set l.heaps t (with_allocation h (next_name t l.machine.store) w)

    allots_at : slice_get (slice_set l.heaps t (with_allocation h (next_name t l.machine.store) w)) t ≡ Some (with_allocation h (next_name t l.machine.store) w)
    allots_at = got_same l.heaps t h (with_allocation h (next_name t l.machine.store) w) is

    begun_same : collecting (Some (with_allocation h (next_name t l.machine.store) w)) ≡ collecting (Some h)
    begun_same = ap is_some (placed_begun h (next_name t l.machine.store) w)

-- two fresh heaps hold nothing
fresh_down : (hs : List Heap) (u : ℕ) (n : Name) → In (heap_names (slice_get (hs ++ fresh ∷ fresh ∷ []) u)) n → In (heap_names (slice_get hs u)) n
fresh_down [] zero n i = i
fresh_down [] (suc zero) n i = i
fresh_down [] (suc (suc u)) n i = i
fresh_down (h ∷ hs) zero n i = i
fresh_down (h ∷ hs) (suc u) n i = fresh_down hs u n i

fresh_up : (hs : List Heap) (u : ℕ) (n : Name) → In (heap_names (slice_get hs u)) n → In (heap_names (slice_get (hs ++ fresh ∷ fresh ∷ []) u)) n
fresh_up [] u n i = absurd i
fresh_up (h ∷ hs) zero n i = i
fresh_up (h ∷ hs) (suc u) n i = fresh_up hs u n i

fresh_collecting : (hs : List Heap) (u : ℕ) → collecting (slice_get (hs ++ fresh ∷ fresh ∷ []) u) ≡ true → collecting (slice_get hs u) ≡ true
fresh_collecting [] zero c = c
fresh_collecting [] (suc zero) c = c
fresh_collecting [] (suc (suc u)) c = c
fresh_collecting (h ∷ hs) zero c = c
fresh_collecting (h ∷ hs) (suc u) c = fresh_collecting hs u c

-- a task that names something hasn't joined
pub named_live : (s : TaskStatus) (r : Name) (z : Task) → z.status ≡ s → In (task_names z) r → is_over s ≡ false
named_live Running r z e i = refl
named_live Waiting r z e i = refl
named_live (Ended q w) r z e i = refl
named_live Joined r z e i = absurd (subst (λ v. In (names_from v (z.top ∷ z.below)) r) e i)

module _ (p : ProgramText) (l : Ledger) (S : SoundLedger l) (t : ℕ) (x : Task) (is : slice_get l.machine.tasks t ≡ Some x) (run : is_running (Some x) ≡ true) (idle : collecting (slice_get l.heaps t) ≡ false) (going : l.machine.end ≡ None)
    (b : Ledger) (A : Allots t (next_name t l.machine.store) (is_some (asked p l.machine t)) l.heaps b.heaps) where
  abbrev m : MachineState
  m = l.machine

  abbrev tasks : List Task
  tasks = l.machine.tasks

  abbrev next : Name
  next = next_name t l.machine.store

  tells : (is_over x.status ≡ false) × (waits x.status ≡ false)
  tells = running_tells x.status run

  tn : t < length tasks
  tn = got_within tasks t x is

  own_t : owner_of tasks t ≡ t
  own_t = owner_here (parents tasks) (joined tasks) t t (ap is_joined is ∙ tells.0)

  owners1 : Owners tasks b.heaps
  owners1 u n i = elim (A.down u n i) [
    | inl old ↦ S.owners u n old
    | inr new ↦ (subst (λ (k : Name). k.task < length tasks) (sym new.1) tn, ap (λ (k : Name). owner_of tasks k.task) new.1 ∙ (own_t ∙ sym new.0))
  ]

  all1 : Closed (step p m t).tasks (step p m t).store (SomeHeapHas b.heaps)
  all1 =
      closed_step p m t S.fork_join (SomeHeapHas l.heaps) (SomeHeapHas b.heaps) (λ n k. (k.0, A.up k.0 n k.1))
      (λ n k. elim (A.down k.0 n k.1) [ inl old ↦ inl (k.0, old) | inr new ↦ inr new.1 ])
      (λ e. (t, A.new e)) S.all

  spares1 : (u : ℕ) (ns : List Name) → (u ≡ t → ⊥) → Spares tasks l.machine.store l.heaps u ns → Spares (step p m t).tasks (step p m t).store b.heaps u ns
  spares1 u ns ne sp =
      closed_step p m t S.fork_join (λ n. SomeHeapHas l.heaps n × (InHeaps l.heaps u n → In ns n)) (λ n. SomeHeapHas b.heaps n × (InHeaps b.heaps u n → In ns n))
      (λ n kf. ((kf.0.0, A.up kf.0.0 n kf.0.1), λ i. kf.1 (old n i)))
      (λ n kf. elim (A.down kf.0.0 n kf.0.1) [ inl o ↦ inl ((kf.0.0, o), λ i. kf.1 (A.up u n i)) | inr new ↦ inr new.1 ])
      (λ e. ((t, A.new e), λ i. absurd (ne (sym (owners1 u next i).1 ∙ own_t)))) sp
    where
      old : (n : Name) → InHeaps b.heaps u n → InHeaps l.heaps u n
      old n i = subst (λ o. In (heap_names o) n) (A.others u ne) i

  idle1 : (u : ℕ) → collecting (slice_get b.heaps u) ≡ true → (u ≡ t → ⊥) × (collecting (slice_get l.heaps u) ≡ true)
  idle1 u c =
      let ne : u ≡ t → ⊥ = λ e. both_ways (collecting (slice_get b.heaps t)) (A.still ∙ idle) (ap (λ w. collecting (slice_get b.heaps w)) (sym e) ∙ c) in
      (ne, ap collecting (sym (A.others u ne)) ∙ c)

  abbrev Good : Ledger → Type 0
  Good = StepLeaves t l b

  -- the tree is unchanged
  steady : (m' : MachineState) → length m'.tasks ≡ length tasks → ((a : ℕ) → owner_of m'.tasks a ≡ owner_of tasks a) → ((u : ℕ) → (u ≡ t → ⊥) → slice_get m'.tasks u ≡ slice_get tasks u) → waiting m'.tasks t ≡ false
      → IsForkJoinStateIn m'.tasks m'.edges m'.store → Disentangled m'.tasks m'.store → Closed m'.tasks m'.store (SomeHeapHas b.heaps)
      → ((u : ℕ) (ns : List Name) → (u ≡ t → ⊥) → Spares tasks l.machine.store l.heaps u ns → Spares m'.tasks m'.store b.heaps u ns)
      → Sound m'.tasks m'.edges m'.store b.heaps
  steady m' len own others idle_t K D C sp = record {
    fork_join = K;
    apart = D;
    lengths = A.long ∙ (S.lengths ∙ sym len);
    owners = λ u n i. (let o = owners1 u n i in (subst (λ k. n.task < k) (sym len) o.0, own n.task ∙ o.1));
    running = λ u c. (let i = idle1 u c in ap is_running (others u i.0) ∙ S.running u i.1);
    all = C;
    waits = λ u w. (let ne = not_t u w in subst (λ o. Spares m'.tasks m'.store b.heaps u (snapshot_at o)) (sym (A.others u ne)) (sp u _ ne (S.waits u (ap is_waiting (sym (others u ne)) ∙ w))));
    collects = λ u c. (let i = idle1 u c in subst (λ o. Spares m'.tasks m'.store b.heaps u (survivors_at o)) (sym (A.others u i.0)) (sp u _ i.0 (S.collects u i.1)));
  }
    where
      not_t : (u : ℕ) → waiting m'.tasks u ≡ true → u ≡ t → ⊥
      not_t u w e = both_ways (waiting m'.tasks t) idle_t (ap (waiting m'.tasks) (sym e) ∙ w)

  -- the machine has ended
  halts : (m' : MachineState) (e : End) → m'.end ≡ Some e → Sound m'.tasks m'.edges m'.store b.heaps → Good (stepped_to b t m')
  halts m' e at s = subst Good (sym (ap (settled (record b { machine = m'; steps = b.steps + 1 }) t) at)) (s, A.still ∙ idle, inl refl, inl (ap is_some at), λ u ne w. A.others u ne)

  -- the task runs on after the step
  runs_on : (m' : MachineState) (y : Task) → m'.end ≡ None → slice_get m'.tasks t ≡ Some y → y.status ≡ Running → Sound m'.tasks m'.edges m'.store b.heaps → Good (stepped_to b t m')
  runs_on m' y on at st s =
      let k : Ledger = record b { machine = m'; steps = b.steps + 1 } in
      subst Good (sym (ap (settled k t) on ∙ (ap (moved_to k t) at ∙ ap (moved_on k t y.parent) st))) (s, A.still ∙ idle, inl refl, inr (inl (ap is_running at ∙ ap runs st)), λ u ne w. A.others u ne)

  same_sound : (m' : MachineState) → m'.tasks ≡ tasks → IsForkJoinStateIn m'.tasks m'.edges m'.store → Disentangled m'.tasks m'.store → Closed m'.tasks m'.store (SomeHeapHas b.heaps)
      → ((u : ℕ) (ns : List Name) → (u ≡ t → ⊥) → Spares tasks l.machine.store l.heaps u ns → Spares m'.tasks m'.store b.heaps u ns)
      → Sound m'.tasks m'.edges m'.store b.heaps
  same_sound m' e K D C sp =
      steady m' (ap length e) (λ a. ap (λ ts. owner_of ts a) e) (λ u ne. ap (λ ts. slice_get ts u) e) (ap (λ ts. waiting ts t) e ∙ (ap is_waiting is ∙ tells.1)) K D C sp

  -- a task is written and keeps its position in the tree
  own_written : (y : Task) → y.parent ≡ x.parent → is_over y.status ≡ is_over x.status → (a : ℕ) → owner_of (slice_set tasks t y) a ≡ owner_of tasks a
  own_written y ep ed a =
      ap (λ f. owner_in f (joined (slice_set tasks t y)) a) (same_view parent_of tasks t x y is ep) ∙ ap (λ f. owner_in (parents tasks) f a) (same_view is_joined tasks t x y is ed)

  written_sound : (m' : MachineState) (y : Task) → m'.tasks ≡ slice_set tasks t y → y.parent ≡ x.parent → is_over y.status ≡ is_over x.status → waits y.status ≡ false
      → IsForkJoinStateIn m'.tasks m'.edges m'.store → Disentangled m'.tasks m'.store → Closed m'.tasks m'.store (SomeHeapHas b.heaps)
      → ((u : ℕ) (ns : List Name) → (u ≡ t → ⊥) → Spares tasks l.machine.store l.heaps u ns → Spares m'.tasks m'.store b.heaps u ns)
      → Sound m'.tasks m'.edges m'.store b.heaps
  written_sound m' y e ep ed ew K D C sp =
      steady m' (ap length e ∙ length-set tasks t y) (λ a. ap (λ ts. owner_of ts a) e ∙ own_written y ep ed a) (λ u ne. ap (λ ts. slice_get ts u) e ∙ got_other tasks t u y ne)
      (ap (λ ts. waiting ts t) e ∙ (ap is_waiting (got_same tasks t x y is) ∙ ew)) K D C sp

  -- the task ends, and its worker releases it
  ended_case : (m' : MachineState) (y : Task) (k : ℤ) (r : Option Name) → m'.end ≡ None → m'.tasks ≡ slice_set tasks t y → y.parent ≡ x.parent → y.status ≡ Ended k r → Owes t l b m'
  ended_case m' y k r on e ep es K D C sp =
      let s = written_sound m' y e ep (ap is_over es ∙ sym tells.0) (ap waits es) K D C sp in
      let h = heap_there m'.tasks b.heaps t s.lengths (omega (arith, ap length e ∙ length-set tasks t y, tn)) in
      let at : slice_get m'.tasks t ≡ Some y = ap (λ ts. slice_get ts t) e ∙ got_same tasks t x y is in
      let a : Ledger = record b { machine = m'; steps = b.steps + 1 } in
      subst Good (sym (ap (settled a t) on ∙ (ap (moved_to a t) at ∙ (ap (moved_on a t y.parent) es ∙ ap (with_heap_at a t let_go) h.1)))) (
        renewed m'.tasks m'.edges m'.store b.heaps s t h.0 (let_go h.0) h.1 (λ n i. i) (λ n i. i) refl refl refl,
        ap collecting (got_same b.heaps t h.0 (let_go h.0) h.1) ∙ (ap collecting (sym h.1) ∙ (A.still ∙ idle)),
        inr (inl (record { heap = h.0; at = h.1; is = refl })),
        inr (inr (ap worker_at (got_same b.heaps t h.0 (let_go h.0) h.1))),
        λ u ne w. got_other b.heaps t u (let_go h.0) ne ∙ A.others u ne,
      )

  -- the task forks
  module _ (g k : ℕ) (top : (r : Name) → In x.top.refs (Some r) → In (task_names x) r) where
    abbrev y : Task
    y = record x { status = Waiting; top = onward x.top }

    abbrev cl : Task
    cl = child t (x.depth + 1) g x.top

    abbrev cr : Task
    cr = child t (x.depth + 1) k x.top

    abbrev all : List Task
    all = slice_set tasks t y ++ cl ∷ cr ∷ []

    abbrev mf : MachineState
    mf = record m {
      tasks = all;
      store = l.machine.store ++ [] ∷ [] ∷ [];
      edges = l.machine.edges ++ edge (strand_of t x) (strand (length tasks) 0) ∷ edge (strand_of t x) (strand (length tasks + 1) 0) ∷ [];
    }

    abbrev a : Ledger
    a = record b { machine = mf; steps = b.steps + 1 }

    own_all : (c : ℕ) → c < length tasks → owner_of all c ≡ owner_of tasks c
    own_all c lt =
        ap (λ f. owner_in (parents all) f c) (fun_ext (grown_view tasks t x y cl cr is is_joined (sym tells.0) refl refl))
        ∙ owner_same (parents tasks) (parents all) S.fork_join.tree.low (length tasks) (λ u lu. grown_view_front tasks t x y cl cr is parent_of refl u lu) (joined tasks) c c lt

    path_all : (c u : ℕ) → u < length tasks → is_on_path all c u ≡ is_on_path tasks c u
    path_all c u lt = path_same (parents tasks) (parents all) S.fork_join.tree.low (length tasks) (λ v lv. grown_view_front tasks t x y cl cr is parent_of refl v lv) c u lt

    owners_all : Owners all b.heaps
    owners_all u n i = let o = owners1 u n i in (omega (arith, grown_length tasks t x y cl cr is, o.0), own_all n.task o.0 ∙ o.1)

    not_above_t : (u : ℕ) → joined tasks u ≡ false → (t ≡ u → ⊥) → is_on_path tasks t u ≡ false
    not_above_t u live ne = not_above (length tasks) (parents tasks) (joined tasks) (waiting tasks) _ l.machine.edges S.fork_join.tree t u live ne (ap is_waiting is ∙ tells.1)

    frames_t : frames_of (slice_get all t) ≡ y.top ∷ y.below
    frames_t = ap frames_of (grown_at tasks t x y cl cr is)

    old_regs : (u : ℕ) (z : Task) (r : Name) → slice_get tasks u ≡ Some z → (u ≡ t → ⊥) → is_on_path all t u ≡ true → In (task_names z) r → ⊥
    old_regs u z r e ne h i =
        both_ways (is_on_path tasks t u) (not_above_t u (ap is_joined e ∙ named_live z.status r z refl i) (λ e'. ne (sym e'))) (sym (path_all t u (got_within tasks u z e)) ∙ h)

    regs : (u : ℕ) (z : Task) (r : Name) → slice_get all u ≡ Some z → is_on_path all t u ≡ true → In (task_names z) r → In (registers (frames_of (slice_get all t))) r
    regs u z r e h i = subst (λ fs. In (registers fs) r) (sym frames_t) (elim (cases_eq u t) [
      | inl same ↦
          let e' : y ≡ z = same_Some y z (sym (ap (slice_get all) same ∙ grown_at tasks t x y cl cr is) ∙ e) in
          subst (λ (w : Task). In (task_names w) r) (sym e') i
      | inr ne ↦ elim (grown_cases (slice_set tasks t y) cl cr u z e) [
        | inl old ↦ absurd (old_regs u z r (sym (got_other tasks t u y ne) ∙ old) ne h i)
        | inr new ↦ elim new [
          | inl c ↦ kid g (subst (λ (w : Task). In (task_names w) r) c.1 i)
          | inr c ↦ kid k (subst (λ (w : Task). In (task_names w) r) c.1 i)
        ]
      ]
    ])
      where
        kid : (q : ℕ) → In (task_names (child t (x.depth + 1) q x.top)) r → In (registers (y.top ∷ y.below)) r
        kid q j = elim (register_cases x.top [] r j) [ inl w ↦ in_append_left (names_of_references x.top.refs) (registers x.below) r (kid_named w) | inr none ↦ absurd none ]
          where
            kid_named : In x.top.refs (Some r) → In (names_of_references x.top.refs) r
            kid_named w = named_from_in x.top.refs r w

    alone : (n : Name) → SomeHeapHas b.heaps n → is_on_path all t (owner_of all n.task) ≡ true → owner_of all n.task ≡ t
    alone n kn h =
        let o = owners1 kn.0 n kn.1 in
        let e : owner_of all n.task ≡ owner_of tasks n.task = own_all n.task o.0 in
        let le : owner_of tasks n.task ≤ n.task = owner_le (parents tasks) S.fork_join.tree.low (joined tasks) n.task n.task in
        let lt : owner_of tasks n.task < length tasks = omega (arith, o.0) in
        elim (cases_eq t (owner_of tasks n.task)) [
          | inl same ↦ e ∙ sym same
          | inr ne ↦ absurd (both_ways (is_on_path tasks t (owner_of tasks n.task))
              (not_above_t (owner_of tasks n.task) (owner_not_joined (length tasks) (parents tasks) (joined tasks) (waiting tasks) _ l.machine.edges S.fork_join.tree n.task) ne)
              (sym (path_all t (owner_of tasks n.task) lt) ∙ (ap (λ w. is_on_path all t w) (sym e) ∙ h)))
        ]

    hb : (h : Heap) × (slice_get b.heaps t ≡ Some h)
    hb = heap_there tasks b.heaps t (A.long ∙ S.lengths) tn

    abbrev heaps2 : List Heap
    heaps2 = b.heaps ++ fresh ∷ fresh ∷ []

    abbrev h3 : Heap
    h3 = forked_heap (within a t) hb.0

    abbrev heaps3 : List Heap
    heaps3 = slice_set heaps2 t h3

    at2 : slice_get heaps2 t ≡ Some hb.0
    at2 = got_front b.heaps (fresh ∷ fresh ∷ []) t (got_within b.heaps t hb.0 hb.1) ∙ hb.1

    at3 : slice_get heaps3 t ≡ Some h3
    at3 = got_same heaps2 t hb.0 h3 at2

    down3 : (u : ℕ) (n : Name) → InHeaps heaps3 u n → InHeaps b.heaps u n
    down3 u n i = elim (cases_eq u t) [
      | inl e ↦ subst (λ v. InHeaps b.heaps v n) (sym e) (subst (λ o. In (heap_names o) n) (sym hb.1) (subst (λ o. In (heap_names o) n) at3 (subst (λ v. InHeaps heaps3 v n) e i)))
      | inr ne ↦ fresh_down b.heaps u n (subst (λ o. In (heap_names o) n) (got_other heaps2 t u h3 ne) i)
    ]

    up3 : (u : ℕ) (n : Name) → InHeaps b.heaps u n → InHeaps heaps3 u n
    up3 u n i = elim (cases_eq u t) [
      | inl e ↦ subst (λ v. InHeaps heaps3 v n) (sym e) (subst (λ o. In (heap_names o) n) (sym at3) (subst (λ o. In (heap_names o) n) hb.1 (subst (λ v. InHeaps b.heaps v n) e i)))
      | inr ne ↦ subst (λ o. In (heap_names o) n) (sym (got_other heaps2 t u h3 ne)) (fresh_up b.heaps u n i)
    ]

    to3 : (u : ℕ) (ns : List Name) → Spares all mf.store b.heaps u ns → Spares all mf.store heaps3 u ns
    to3 u ns sp = closed_same all mf.store _ _ (λ n kf. ((kf.0.0, up3 kf.0.0 n kf.0.1), λ i. kf.1 (down3 u n i))) (λ n kf. ((kf.0.0, down3 kf.0.0 n kf.0.1), λ i. kf.1 (up3 u n i))) sp

    others3 : (u : ℕ) → (u ≡ t → ⊥) → u < length tasks → slice_get heaps3 u ≡ slice_get l.heaps u
    others3 u ne lt = got_other heaps2 t u h3 ne ∙ (got_front b.heaps (fresh ∷ fresh ∷ []) u (omega (arith, A.long, S.lengths)) ∙ A.others u ne)

    collects3 : (u : ℕ) → collecting (slice_get heaps3 u) ≡ true → (u ≡ t → ⊥) × (collecting (slice_get l.heaps u) ≡ true)
    collects3 u c = elim (cases_eq u t) [
      | inl e ↦ absurd (both_ways (collecting (slice_get heaps3 u)) (ap (λ v. collecting (slice_get heaps3 v)) e ∙ (ap collecting at3 ∙ (ap collecting (sym hb.1) ∙ (A.still ∙ idle)))) c)
      | inr ne ↦ idle1 u (fresh_collecting b.heaps u (ap collecting (sym (got_other heaps2 t u h3 ne)) ∙ c))
    ]

    within_tasks : (u : ℕ) (view : Option Task → Bool) → view None ≡ false → view (slice_get tasks u) ≡ true → u < length tasks
    within_tasks u view none h = elim (cases_lt u (length tasks)) [
      | inl lt ↦ lt
      | inr ge ↦ absurd (both_ways (view (slice_get tasks u)) (ap view (got_past tasks u ge) ∙ none) h)
    ]

    was_waiting : (u : ℕ) → (u ≡ t → ⊥) → waiting all u ≡ true → waiting tasks u ≡ true
    was_waiting u ne w = sym (wrest_fork tasks l.machine.edges t x (onward x.top) x.top x.top g k is run S.fork_join.tree u ne) ∙ w

    fork_sound : IsForkJoinStateIn all mf.edges mf.store → Disentangled all mf.store → Closed all mf.store (SomeHeapHas b.heaps)
        → ((u : ℕ) (ns : List Name) → (u ≡ t → ⊥) → Spares tasks l.machine.store l.heaps u ns → Spares all mf.store b.heaps u ns) → Sound all mf.edges mf.store heaps3
    fork_sound K D C sp = record {
      fork_join = K;
      apart = D;
      lengths = length-set heaps2 t h3 ∙ (length-append b.heaps (fresh ∷ fresh ∷ []) ∙ (ap (λ q. q + 2) (A.long ∙ S.lengths) ∙ sym (grown_length tasks t x y cl cr is)));
      owners = λ u n i. owners_all u n (down3 u n i);
      running = λ u c. (let r = collects3 u c in let now = S.running u r.1 in ap is_running (grown_other tasks t x y cl cr is u (within_tasks u is_running refl now) r.0) ∙ now);
      all = closed_same all mf.store _ _ (λ n q. (q.0, up3 q.0 n q.1)) (λ n q. (q.0, down3 q.0 n q.1)) C;
      waits = λ u w. elim (cases_eq u t) [
        | inl e ↦
            subst (λ v. Spares all mf.store heaps3 v (snapshot_at (slice_get heaps3 v))) (sym e)
            (subst (λ o. Spares all mf.store heaps3 t (snapshot_at o)) (sym at3) (to3 t (within a t) (frozen a t D owners_all C regs alone)))
        | inr ne ↦
            let w0 = was_waiting u ne w in
            subst (λ o. Spares all mf.store heaps3 u (snapshot_at o)) (sym (others3 u ne (within_tasks u is_waiting refl w0))) (to3 u _ (sp u _ ne (S.waits u w0)))
      ];
      collects = λ u c. (let r = collects3 u c in
          subst (λ o. Spares all mf.store heaps3 u (survivors_at o)) (sym (others3 u r.0 (within_tasks u is_running refl (S.running u r.1)))) (to3 u _ (sp u _ r.0 (S.collects u r.1))));
    }

    fork_case : Owes t l b mf
    fork_case K D C sp =
        subst Good (sym (ap (settled a t) going ∙ (ap (moved_to a t) (grown_at tasks t x y cl cr is) ∙ ap (with_heap_at (record a { heaps = heaps2 }) t (forked_heap (within a t))) at2))) (
          fork_sound K D C sp,
          ap collecting at3 ∙ (ap collecting (sym hb.1) ∙ (A.still ∙ idle)),
          inr (inr (inl (record { heap = hb.0; names = within a t; at = hb.1; is = refl }))),
          inr (inr (ap worker_at at3)),
          λ u ne w. others3 u ne (elim w [ inl r ↦ within_tasks u is_running refl r | inr q ↦ within_tasks u is_waiting refl (was_waiting u ne q) ]),
        )

  -- the root ends and so does the run, or another task ends before its sibling
  ended_either : (m' : MachineState) (y : Task) (k : ℤ) (r : Option Name) (parent : Option ℕ) → m'.tasks ≡ slice_set tasks t y → y.parent ≡ x.parent → y.status ≡ Ended k r
      → ((parent ≡ None) × (m'.end ≡ Some Done)) ⊎ (is_some parent ≡ true) × (m'.end ≡ m.end) → Owes t l b m'
  ended_either m' y k r parent e ep es (inl q) K D C sp = halts m' Done q.1 (written_sound m' y e ep (ap is_over es ∙ sym tells.0) (ap waits es) K D C sp)
  ended_either m' y k r parent e ep es (inr q) K D C sp = ended_case m' y k r (q.1 ∙ going) e ep es K D C sp

  -- the step in any case
  pub step_sound : Good (stepped_to b t (step p m t))
  step_sound =
      step_cases p m t S.fork_join (Owes t l b)
      (λ K D C sp. runs_on m x going is (runs_is x.status run) (same_sound m refl K D C sp))
      (λ x' e is' run' why K D C sp. halts (ended_by m e) e refl (same_sound (ended_by m e) refl K D C sp))
      (λ x' y' store outs is' run' ep ed es ej names fields alters grows K D C sp.
      let ex : x' ≡ x = same_Some x' x (sym is' ∙ is) in
      let run_y : y'.status ≡ Running = es ∙ (ap (λ (w : Task). w.status) ex ∙ runs_is x.status run) in
      let m' : MachineState = record m { tasks = slice_set tasks t y'; store = store; outputs = outs } in
      runs_on m' y' going (got_same tasks t x y' is) run_y
      (written_sound m' y' refl (ep ∙ ap (λ (w : Task). w.parent) ex) (ap is_over run_y ∙ sym tells.0) (ap waits run_y) K D C sp))
      (λ x' parent e is' run' pp which result.
      let ex : x' ≡ x = same_Some x' x (sym is' ∙ is) in
      let y' : Task = ended_task x' (result_of x'.top) in
      ended_either (record m { tasks = slice_set tasks t y'; end = e }) y' (int_in x'.top 0) (ref_in x'.top 0) parent refl (ap (λ (w : Task). w.parent) ex) refl which)
      (λ x' g h is' run' next top.
      let ex : x ≡ x' = same_Some x x' (sym is ∙ is') in
      subst (λ (w : Task). Owes t l b (record m {
        tasks = slice_set tasks t (record w { status = Waiting; top = onward w.top }) ++ child t (w.depth + 1) g w.top ∷ child t (w.depth + 1) h w.top ∷ [];
        store = l.machine.store ++ [] ∷ [] ∷ [];
        edges = l.machine.edges ++ edge (strand_of t w) (strand (length tasks) 0) ∷ edge (strand_of t w) (strand (length tasks + 1) 0) ∷ [];
      })) ex (fork_case g h (subst (λ (w : Task). (r : Name) → In w.top.refs (Some r) → In (task_names w) r) (sym ex) top)))
      (λ parent c xp xl xr rl rr ip il ir pl left dl dr wl wr nl nr side. join_case l S t going b owners1 idle1 A.others A.long parent c xp xl xr rl rr ip il ir pl left dl dr wl wr side)
      (step_is_fork_join_state p m t S.fork_join) (disentangled_step p m t S.fork_join S.apart) all1 spares1

pub goes_tells : (o : Option End) (b : Bool) → goes_on o b ≡ true → (o ≡ None) × (b ≡ true)
goes_tells None b h = (refl, h)
goes_tells (Some e) b h = absurd (false≢true h)

-- a task can take a step if the machine goes on and the task runs
pub can_tells : (m : MachineState) (t : ℕ) → can_step m t ≡ true → (m.end ≡ None) × (is_running (slice_get m.tasks t) ≡ true)
can_tells m t h = goes_tells m.end (is_running (slice_get m.tasks t)) h

pub running_at : (ts : List Task) (t : ℕ) (o : Option Task) → slice_get ts t ≡ o → is_running o ≡ true → (x : Task) × (slice_get ts t ≡ Some x) × (is_running (Some x) ≡ true)
running_at ts t None e h = absurd (false≢true h)
running_at ts t (Some x) e h = (x, e, h)

pub heap_of_task : (l : Ledger) (t : ℕ) → SoundLedger l → is_running (slice_get l.machine.tasks t) ≡ true → (h : Heap) × (slice_get l.heaps t ≡ Some h)
heap_of_task l t S run =
    let x = running_at l.machine.tasks t (slice_get l.machine.tasks t) refl run in
    heap_there l.machine.tasks l.heaps t S.lengths (got_within l.machine.tasks t x.0 x.1)

pub step_leaves : (p : ProgramText) (l : Ledger) (t : ℕ) → SoundAt t l → can_step l.machine t ≡ true → StepLeaves t l (allocated_in p l t) (stepped_to (allocated_in p l t) t (step p l.machine t))
step_leaves p l t S can =
    let tells = can_tells l.machine t can in
    let x = running_at l.machine.tasks t (slice_get l.machine.tasks t) refl tells.1 in
    let h = heap_of_task l t S.0 tells.1 in
    step_sound p l S.0 t x.0 x.1 x.2 S.1 tells.0 (allocated_in p l t) (allots l t h.0 h.1 (asked p l.machine t))

-- an invariant of taken steps, and of the step count otherwise, holds after the next step
pub step_keeps : (P : Ledger → Type 0) (p : ProgramText) (l : Ledger) (t : ℕ) → (can_step l.machine t ≡ true → P (stepped_to (allocated_in p l t) t (step p l.machine t))) → P (record l { steps = l.steps + 1 }) → P (task_step p l t)
step_keeps P p l t taken none = step_keeps_by_cases (can_step l.machine t) refl
  where
    step_keeps_by_cases : (v : Bool) → can_step l.machine t ≡ v → P (cond v (stepped_to (allocated_in p l t) t (step p l.machine t)) (record l { steps = l.steps + 1 }))
    step_keeps_by_cases false e = none
    step_keeps_by_cases true e = taken e

pub task_step_sound : (p : ProgramText) (l : Ledger) (t : ℕ) → SoundAt t l → SoundAt t (task_step p l t)
task_step_sound p l t S = step_keeps (SoundAt t) p l t (λ e. let g = step_leaves p l t S e in (g.0, g.1)) S

-- an invariant of each step holds after many
pub steps_keep : (P : Ledger → Type 0) (p : ProgramText) (t : ℕ) → ((l : Ledger) → SoundAt t l → P l → P (task_step p l t)) → (k : ℕ) (l : Ledger) → SoundAt t l → P l → P (task_steps p l t k)
steps_keep P p t keeps zero l S I = I
steps_keep P p t keeps (suc k) l S I = steps_keep P p t keeps k (task_step p l t) (task_step_sound p l t S) (keeps l S I)

pub task_steps_sound : (p : ProgramText) (k : ℕ) (l : Ledger) (t : ℕ) → SoundAt t l → SoundAt t (task_steps p l t k)
task_steps_sound p zero l t S = S
task_steps_sound p (suc k) l t S = task_steps_sound p k (task_step p l t) t (task_step_sound p l t S)

-- the last of several steps
pub steps_last : (p : ProgramText) (l : Ledger) (t j : ℕ) → task_steps p l t (suc j) ≡ task_step p (task_steps p l t j) t
steps_last p l t zero = refl
steps_last p l t (suc j) = steps_last p (task_step p l t) t j
