-- The changes of the accounts are those of the ledger's definitions.
use Rattle.ledger_step_laws.proofs.Common.{◌≡◌, ℕ, ℤ, zero, suc, ◌+◌, ◌<◌, ◌≤◌, ◌==◌, ◌||◌, arith, true, false, Option, Some, None, List, [], ◌∷◌, ◌++◌, length, length-append, slice_get, slice_set, map, filter, unwrap_or, Bool, not, ◌&&◌, ◌⊎◌, inl, inr, refl, ap, ap₂, sym, subst, ◌∙◌, or-false, cases_eq, cases_lt, eqb-true, or_cases, fun_ext, got_front, got_back, got_past, got_within, got_none, Name, Object, Edge, Running, Waiting, Task, MachineState, object_at, row_of, onward, is_joined, is_over, waits, is_left, is_on_path, path_in, path_by, through, owner_of, owner_in, parents, joined, parent_of, child, joined_task, resumed, join_of, AreLow, path_child, path_same, owner_same, owner_joins, grown_at, grown_left, grown_right, grown_other, grown_past, grown_view, grown_view_front, three_top, three_left, three_right, three_other, three_view, drest, parr, owner_here, Heap, Ledger, heap_of, or_fresh, with_heap, with_heap_at, let_go, held, held_in, roots_of, frames_of, is_proper_ancestor, fresh, within, swept_heap, collected, forked_heap, merged, emptied, flat_map, same_Some, refs_at, refs_of, registers, once_more, reached_by, reached, at_fork, join_heaps, SoundLedger, once_by, heap_machine, heap_view, rested, ChangesHeap, WorkerTakes, SameTasks, ForksTask, JoinsTasks}
use Rattle.ledger_step_laws.proofs.Ahead.{with_at, with_off, heap_then}

-- ONE HEAP

pub changes_heap : (l : Ledger) (t : ℕ) (f : Heap → Heap) → ((h : Heap) → (f h).worker ≡ h.worker) → ((h : Heap) → (f h).snapshot ≡ h.snapshot) → ChangesHeap l (with_heap l t f) t
changes_heap l t f w s = record {
  machine = heap_machine l t f;
  others = λ u ne. ap or_fresh (with_off l t u f ne);
  worker = heap_view (λ h. h.worker) l t f w t;
  snapshot = heap_view (λ h. h.snapshot) l t f s t;
}

pub sweep_changes : (l : Ledger) (t : ℕ) → ChangesHeap l (with_heap l t swept_heap) t
sweep_changes l t = changes_heap l t swept_heap (λ h. refl) (λ h. refl)

pub end_changes : (l : Ledger) (t : ℕ) → ChangesHeap l (with_heap l t (collected l.machine)) t
end_changes l t = changes_heap l t (collected l.machine) (λ h. refl) (λ h. refl)

pub same_tasks : (l : Ledger) (t : ℕ) (f : Heap → Heap) → ((h : Heap) → (f h).worker ≡ h.worker) → ((h : Heap) → (f h).snapshot ≡ h.snapshot) → SameTasks l (with_heap l t f)
same_tasks l t f w s =
    let C = changes_heap l t f w s in
    record {
      machine = C.machine;
      worker = λ u. elim (cases_eq u t) [
        | inl e ↦ ap (λ z. (heap_of (with_heap l t f) z).worker) e ∙ (C.worker ∙ ap (λ z. (heap_of l z).worker) (sym e))
        | inr ne ↦ ap (λ (h : Heap). h.worker) (C.others u ne)
      ];
      snapshot = λ u. elim (cases_eq u t) [
        | inl e ↦ ap (λ z. (heap_of (with_heap l t f) z).snapshot) e ∙ (C.snapshot ∙ ap (λ z. (heap_of l z).snapshot) (sym e))
        | inr ne ↦ ap (λ (h : Heap). h.snapshot) (C.others u ne)
      ];
    }

pub took_takes : (l : Ledger) (t w : ℕ) (h : Heap) → slice_get l.heaps t ≡ Some h → WorkerTakes l (with_heap l t (λ h. record h { worker = Some w })) t w
took_takes l t w h is = record {
  machine = heap_machine l t _;
  worker = ap (λ o. (or_fresh o).worker) (with_at l t (λ h. record h { worker = Some w }) ∙ ap (heap_then (λ h. record h { worker = Some w })) is);
  heaps = λ u ne. ap or_fresh (with_off l t u _ ne);
}

-- REACHABILITY

once_same : (store store' : List (List Object)) → ((k : Name) → refs_at store' k ≡ refs_at store k) → (names found : List Name) → once_more store' names found ≡ once_more store names found
once_same store store' e names found = ap (λ (f : Name → List Name). once_by f names found) (fun_ext e)

reached_same : (store store' : List (List Object)) → ((k : Name) → refs_at store' k ≡ refs_at store k) → (names roots : List Name) (more : ℕ) → reached_by store' names roots more ≡ reached_by store names roots more
reached_same store store' e names roots zero = refl
reached_same store store' e names roots (suc more) = once_same store store' e names (reached_by store' names roots more) ∙ ap (once_more store names) (reached_same store store' e names roots more)

pub within_by : (l l' : Ledger) (t : ℕ) → ((k : Name) → refs_at l'.machine.store k ≡ refs_at l.machine.store k) → held_in (heap_of l' t) ≡ held_in (heap_of l t) → roots_of l' t ≡ roots_of l t → within l' t ≡ within l t
within_by l l' t refs held roots =
    reached_same l.machine.store l'.machine.store refs (held_in (heap_of l' t)) (roots_of l' t) (length (held_in (heap_of l' t)))
    ∙ ap₂ (λ names roots. reached l.machine.store names roots) held roots

-- released or not
pub within_rested : (l : Ledger) (t u : ℕ) → within (rested l t) u ≡ within l u
within_rested l t u = within_rested_by_cases (rested l t) (heap_machine l t let_go) (heaps (slice_get l.heaps t) refl)
  where
    held_set : (hs : List Heap) (k : ℕ) (h : Heap) → slice_get hs k ≡ Some h → map held_in (slice_set hs k (let_go h)) ≡ map held_in hs
    held_set [] k h e = refl
    held_set (z ∷ zs) zero h e = ap (λ (g : Heap). held_in g ∷ map held_in zs) (sym (same_Some z h e))
    held_set (z ∷ zs) (suc k) h e = ap (λ ns. held_in z ∷ ns) (held_set zs k h e)

    heaps : (o : Option Heap) → slice_get l.heaps t ≡ o → map held_in (with_heap_at l t let_go o).heaps ≡ map held_in l.heaps
    heaps None e = refl
    heaps (Some h) e = held_set l.heaps t h e

    flat : (hs : List Heap) → flat_map held_in hs ≡ flat_map (λ ns. ns) (map held_in hs)
    flat [] = refl
    flat (z ∷ zs) = ap (λ ns. held_in z ++ ns) (flat zs)

    within_rested_at : (hs : List Heap) (k : ℕ) → held_in (or_fresh (slice_get hs k)) ≡ unwrap_or (slice_get (map held_in hs) k) []
    within_rested_at [] k = refl
    within_rested_at (z ∷ zs) zero = refl
    within_rested_at (z ∷ zs) (suc k) = within_rested_at zs k

    within_rested_by_cases : (k : Ledger) → k.machine ≡ l.machine → map held_in k.heaps ≡ map held_in l.heaps → within k u ≡ within l u
    within_rested_by_cases k m hs =
        within_by l k u (λ n. ap (λ (z : MachineState). refs_at z.store n) m) (within_rested_at k.heaps u ∙ (ap (λ ns. unwrap_or (slice_get ns u) []) hs ∙ sym (within_rested_at l.heaps u)))
        (ap₂ (λ (z : MachineState) ns. registers (frames_of (slice_get z.tasks u)) ++ flat_map (refs_at z.store) (filter (λ n. is_proper_ancestor z.tasks (owner_of z.tasks n.task) u) ns)) m (flat k.heaps ∙ (ap (flat_map (λ ns. ns)) hs ∙ sym (flat l.heaps))))

-- A FORK

row_two : (rows : List (List Object)) (u : ℕ) → row_of (slice_get (rows ++ [] ∷ [] ∷ []) u) ≡ row_of (slice_get rows u)
row_two [] zero = refl
row_two [] (suc zero) = refl
row_two [] (suc (suc u)) = refl
row_two (r ∷ rows) zero = refl
row_two (r ∷ rows) (suc u) = row_two rows u

-- a task without a parent has no ancestors
path_none : (par : ℕ → Option ℕ) (z u : ℕ) → par u ≡ None → path_in par z u ≡ (z == u)
path_none par z zero e = refl
path_none par z (suc u) e = ap (λ o. (z == suc u) || through o false (path_by par u z)) e ∙ or-false (z == suc u)

fresh_off : (heaps : List Heap) (u : ℕ) → (u ≡ length heaps → ⊥) → (u ≡ length heaps + 1 → ⊥) → slice_get (heaps ++ fresh ∷ fresh ∷ []) u ≡ slice_get heaps u
fresh_off heaps u na nb = elim (cases_lt u (length heaps)) [
  | inl lt ↦ got_front heaps (fresh ∷ fresh ∷ []) u lt
  | inr ge ↦ got_past (heaps ++ fresh ∷ fresh ∷ []) u (let e : length (heaps ++ fresh ∷ fresh ∷ []) ≡ length heaps + 2 = length-append heaps (fresh ∷ fresh ∷ []) in omega arith) ∙ sym (got_past heaps u ge)
]

module _ (l : Ledger) (t : ℕ) (x : Task) (g h n : ℕ) (edges : List Edge) (is : slice_get l.machine.tasks t ≡ Some x) (run : x.status ≡ Running) (S : SoundLedger l) (stored : length l.machine.store ≡ length l.machine.tasks) where
  abbrev tasks : List Task
  tasks = l.machine.tasks

  abbrev a : ℕ
  a = length tasks

  abbrev y : Task
  y = record x { status = Waiting; top = onward x.top }

  abbrev cl : Task
  cl = child t (x.depth + 1) g x.top

  abbrev cr : Task
  cr = child t (x.depth + 1) h x.top

  abbrev all : List Task
  all = slice_set tasks t y ++ cl ∷ cr ∷ []

  abbrev after : Ledger
  after = record l { machine = record l.machine { tasks = all; store = l.machine.store ++ [] ∷ [] ∷ []; edges = edges }; steps = n }

  abbrev l' : Ledger
  l' = at_fork after t

  lt : t < a
  lt = got_within tasks t x is

  past : (u : ℕ) → a ≤ u → slice_get tasks u ≡ None
  past u le = got_past tasks u le

  joined_same : joined all ≡ joined tasks
  joined_same = fun_ext (grown_view tasks t x y cl cr is is_joined (sym (ap is_over run)) refl refl)

  par_front : (u : ℕ) → u < a → parents all u ≡ parents tasks u
  par_front u lu = grown_view_front tasks t x y cl cr is parent_of refl u lu

  module _ (low' : AreLow (parents all)) where
    own_all : (k : ℕ) → owner_of all k ≡ owner_of tasks k
    own_all k = elim (cases_lt k a) [
      | inl lk ↦
          ap (λ jd. owner_in (parents all) jd k) joined_same ∙ owner_same (parents tasks) (parents all) S.fork_join.tree.low a par_front (joined tasks) k k lk
      | inr ge ↦
          let none : joined tasks k ≡ false = ap is_joined (past k ge) in
          owner_here (parents all) (joined all) k k (ap (λ jd. jd k) joined_same ∙ none) ∙ sym (owner_here (parents tasks) (joined tasks) k k none)
    ]

    path_all : (z u : ℕ) → (u ≡ a → ⊥) → (u ≡ a + 1 → ⊥) → is_on_path all z u ≡ is_on_path tasks z u
    path_all z u na nb = elim (cases_lt u a) [
      | inl lu ↦ path_same (parents tasks) (parents all) S.fork_join.tree.low a par_front z u lu
      | inr ge ↦
          path_none (parents all) z u (ap parent_of (grown_past tasks t x y cl cr is u (omega arith)))
          ∙ sym (path_none (parents tasks) z u (ap parent_of (past u ge)))
    ]

    task_all : (u : ℕ) → (u ≡ t → ⊥) → (u ≡ a → ⊥) → (u ≡ a + 1 → ⊥) → slice_get all u ≡ slice_get tasks u
    task_all u nt na nb = elim (cases_lt u a) [
      | inl lu ↦ grown_other tasks t x y cl cr is u lu nt
      | inr ge ↦ grown_past tasks t x y cl cr is u (omega arith) ∙ sym (past u ge)
    ]

    -- the ancestors of a child
    above_child : (z c : ℕ) → parents all c ≡ Some t → is_on_path all z c ≡ true → (z ≡ c) ⊎ (is_on_path tasks z t ≡ true)
    above_child z c is_child h = elim (or_cases (z == c) (is_on_path all z t) (sym (path_child (parents all) low' z c t is_child) ∙ h)) [
      | inl q ↦ inl (eqb-true z c q)
      | inr q ↦ inr (sym (path_all z t (λ r. omega (arith, lt, r)) (λ r. omega (arith, lt, r))) ∙ q)
    ]

    -- what is reachable within the heap is the same
    pub fork_names : within after t ≡ within l t
    fork_names = within_by l after t refs refl roots
      where
        refs : (k : Name) → refs_at after.machine.store k ≡ refs_at l.machine.store k
        refs k = ap refs_of (ap (λ r. slice_get r k.count) (row_two l.machine.store k.task))

        above : (k : Name) → is_proper_ancestor all (owner_of all k.task) t ≡ is_proper_ancestor tasks (owner_of tasks k.task) t
        above k = ap (λ z. is_proper_ancestor all z t) (own_all k.task) ∙ ap (λ b. b && not (owner_of tasks k.task == t)) (path_all (owner_of tasks k.task) t (λ q. omega (arith, lt, q)) (λ q. omega (arith, lt, q)))

        roots : roots_of after t ≡ roots_of l t
        roots =
            ap₂ (λ xs ys. xs ++ ys) (ap (λ o. registers (frames_of o)) (grown_at tasks t x y cl cr is) ∙ sym (ap (λ o. registers (frames_of o)) is))
            (ap₂ (λ (f : Name → List Name) (g : Name → Bool). flat_map f (filter g (held l))) (fun_ext refs) (fun_ext above))

    heaps_long : length l.heaps ≡ a
    heaps_long = S.lengths

    e : l'.machine ≡ after.machine
    e = heap_machine (record after { heaps = after.heaps ++ fresh ∷ fresh ∷ [] }) t (forked_heap (within after t))

    pub fork_is : ForksTask l l' t a (a + 1) g h x
    fork_is = record {
      task = is;
      waits = ap (λ (m : MachineState). slice_get m.tasks t) e ∙ grown_at tasks t x y cl cr is;
      left = ap (λ (m : MachineState). slice_get m.tasks a) e ∙ grown_left tasks t x y cl cr is;
      right = ap (λ (m : MachineState). slice_get m.tasks (a + 1)) e ∙ grown_right tasks t x y cl cr is;
      tasks = λ u nt na nb. ap (λ (m : MachineState). slice_get m.tasks u) e ∙ task_all u nt na nb;
      owners = λ k. ap (λ (m : MachineState). owner_of m.tasks k) e ∙ own_all k;
      paths = λ z u na nb. ap (λ (m : MachineState). is_on_path m.tasks z u) e ∙ path_all z u na nb;
      store = λ k. ap (λ (m : MachineState). object_at m.store k) e ∙ ap (λ r. slice_get r k.count) (row_two l.machine.store k.task);
      rows = λ u. ap (λ (m : MachineState). length (row_of (slice_get m.store u))) e ∙ ap length (row_two l.machine.store u);
      unmade_left = past a (omega arith);
      unmade_right = past (a + 1) (omega arith);
      new_left = ap (λ r. length (row_of r)) (got_past l.machine.store a (omega (arith, stored)));
      new_right = ap (λ r. length (row_of r)) (got_past l.machine.store (a + 1) (omega (arith, stored)));
      lone_left = λ z p. eqb-true z a (sym (path_none (parents tasks) z a (ap parent_of (past a (omega arith)))) ∙ p);
      lone_right = λ z p. eqb-true z (a + 1) (sym (path_none (parents tasks) z (a + 1) (ap parent_of (past (a + 1) (omega arith)))) ∙ p);
      above_left = λ z h. above_child z a (ap parent_of (grown_left tasks t x y cl cr is)) (ap (λ (m : MachineState). is_on_path m.tasks z a) (sym e) ∙ h);
      above_right = λ z h. above_child z (a + 1) (ap parent_of (grown_right tasks t x y cl cr is)) (ap (λ (m : MachineState). is_on_path m.tasks z (a + 1)) (sym e) ∙ h);
      left_apart = λ q. omega (arith, lt, q);
      right_apart = λ q. omega (arith, lt, q);
      two = λ q. omega (arith, q);
      names = within after t;
      heap =
          ap or_fresh (with_at (record after { heaps = after.heaps ++ fresh ∷ fresh ∷ [] }) t (forked_heap (within after t)))
          ∙ (ap (λ o. or_fresh (heap_then (forked_heap (within after t)) o)) (got_front l.heaps (fresh ∷ fresh ∷ []) t (omega (arith, heaps_long, lt))) ∙ fork_is_there);
      heap_left = ap or_fresh (with_off (record after { heaps = after.heaps ++ fresh ∷ fresh ∷ [] }) t a (forked_heap (within after t)) (λ q. omega (arith, lt, q)) ∙ (ap (slice_get (l.heaps ++ fresh ∷ fresh ∷ [])) (let q : a ≡ length l.heaps + 0 = omega (arith, heaps_long) in q) ∙ got_back l.heaps (fresh ∷ fresh ∷ []) 0));
      heap_right = ap or_fresh (with_off (record after { heaps = after.heaps ++ fresh ∷ fresh ∷ [] }) t (a + 1) (forked_heap (within after t)) (λ q. omega (arith, lt, q)) ∙ (ap (slice_get (l.heaps ++ fresh ∷ fresh ∷ [])) (let q : a + 1 ≡ length l.heaps + 1 = omega (arith, heaps_long) in q) ∙ got_back l.heaps (fresh ∷ fresh ∷ []) 1));
      heaps = λ u nt na nb. ap or_fresh (with_off (record after { heaps = after.heaps ++ fresh ∷ fresh ∷ [] }) t u (forked_heap (within after t)) nt ∙ fresh_off l.heaps u (λ q. na (q ∙ heaps_long)) (λ q. nb (q ∙ ap (λ k. k + 1) heaps_long)));
    }
      where
        fork_is_there : or_fresh (heap_then (forked_heap (within after t)) (slice_get l.heaps t)) ≡ forked_heap (within after t) (heap_of l t)
        fork_is_there = fork_is_there_by_cases (slice_get l.heaps t) (got_none l.heaps t (omega (arith, heaps_long, lt)))
          where
            fork_is_there_by_cases : (o : Option Heap) → (o ≡ None → ⊥) → or_fresh (heap_then (forked_heap (within after t)) o) ≡ forked_heap (within after t) (or_fresh o)
            fork_is_there_by_cases None no_heap = absurd (no_heap refl)
            fork_is_there_by_cases (Some z) no_heap = refl

    pub fork_is_names : fork_is.names ≡ within after t
    unfolding fork_is
    fork_is_names = refl

-- A JOIN

module _ (l : Ledger) (p c n : ℕ) (xp xl xr : Task) (rl rr : ℤ × Option Name) (ip : slice_get l.machine.tasks p ≡ Some xp) (il : slice_get l.machine.tasks c ≡ Some xl) (ir : slice_get l.machine.tasks (c + 1) ≡ Some xr)
    (pl : xl.parent ≡ Some p) (left : is_left c ≡ true) (dl : is_over xl.status ≡ false) (dr : is_over xr.status ≡ false) (wl : waits xl.status ≡ false) (wr : waits xr.status ≡ false) (S : SoundLedger l) where
  abbrev d : ℕ
  d = c + 1

  abbrev old : List Task
  old = l.machine.tasks

  abbrev new : List Task
  new = slice_set (slice_set (slice_set old c (joined_task xl)) d (joined_task xr)) p (resumed xp rl rr)

  abbrev joined_then : Ledger
  joined_then = record l { machine = join_of l.machine p xp c xl xr rl rr; steps = n }

  abbrev k : Ledger
  k = join_heaps joined_then p c

  lt_p : p < c
  lt_p = S.fork_join.tree.low c p (ap parent_of il ∙ pl)

  -- the heaps are changed one after the other
  abbrev k1 : Ledger
  k1 = with_heap joined_then p (λ h. merged h (heap_of joined_then c) (heap_of joined_then d))

  abbrev k2 : Ledger
  k2 = with_heap k1 c emptied

  machine_then : k.machine ≡ joined_then.machine
  machine_then = heap_machine k2 d emptied ∙ (heap_machine k1 c emptied ∙ heap_machine joined_then p (λ h. merged h (heap_of joined_then c) (heap_of joined_then d)))

  par_same : parents new ≡ parents old
  par_same = fun_ext (three_view old c p xl xr xp (joined_task xl) (joined_task xr) (resumed xp rl rr) il ir ip lt_p parent_of refl refl refl)

  heap_there : (u : ℕ) → u < length old → (h : Heap) × (slice_get l.heaps u ≡ Some h)
  heap_there u lt = got l.heaps u (omega (arith, S.lengths, lt))
    where
      got : (xs : List Heap) (j : ℕ) → j < length xs → (h : Heap) × (slice_get xs j ≡ Some h)
      got [] j lt = absurd (omega (arith, lt))
      got (z ∷ zs) zero lt = (z, refl)
      got (z ∷ zs) (suc j) lt = got zs j (omega (arith, lt))

  then_some : (f : Heap → Heap) (u : ℕ) → u < length old → or_fresh (heap_then f (slice_get l.heaps u)) ≡ f (heap_of l u)
  then_some f u lt = let h = heap_there u lt in ap (λ o. or_fresh (heap_then f o)) h.1 ∙ ap (λ o. f (or_fresh o)) (sym h.1)

  pub join_is : JoinsTasks l k p c d xp rl rr
  join_is = record {
    owners = λ a. subst (λ (m : MachineState). ((owner_of m.tasks a ≡ p) × ((owner_of old a ≡ c) ⊎ (owner_of old a ≡ d))) ⊎ ((owner_of m.tasks a ≡ owner_of old a) × ((owner_of old a ≡ c → ⊥) × (owner_of old a ≡ d → ⊥)))) (sym machine_then) (
        subst (λ par. ((owner_in par (joined new) a ≡ p) × ((owner_of old a ≡ c) ⊎ (owner_of old a ≡ d))) ⊎ ((owner_in par (joined new) a ≡ owner_of old a) × ((owner_of old a ≡ c → ⊥) × (owner_of old a ≡ d → ⊥)))) (sym par_same)
        (owner_joins (parents old) S.fork_join.tree.low (joined old) (joined new) c d p (ap parent_of il ∙ pl) (parr old l.machine.edges c p xl xr xp rl rr il ir ip pl left dl dr wl wr S.fork_join.tree) (ap is_joined il ∙ dl) (ap is_joined ir ∙ dr)
        (ap is_joined (three_top old c p xl xr xp (joined_task xl) (joined_task xr) (resumed xp rl rr) il ir ip lt_p))
        (ap is_joined (three_left old c p xl xr xp (joined_task xl) (joined_task xr) (resumed xp rl rr) il ir ip lt_p))
        (ap is_joined (three_right old c p xl xr xp (joined_task xl) (joined_task xr) (resumed xp rl rr) il ir ip lt_p))
        (drest old l.machine.edges c p xl xr xp rl rr il ir ip pl left dl dr wl wr S.fork_join.tree) a));
    paths = λ a u. ap (λ (m : MachineState). is_on_path m.tasks a u) machine_then ∙ ap (λ par. path_in par a u) par_same;
    store = λ m. ap (λ (z : MachineState). object_at z.store m) machine_then;
    rows = λ u. ap (λ (m : MachineState). length (row_of (slice_get m.store u))) machine_then;
    parent = ip;
    resumed = ap (λ (m : MachineState). slice_get m.tasks p) machine_then ∙ three_top old c p xl xr xp (joined_task xl) (joined_task xr) (resumed xp rl rr) il ir ip lt_p;
    left = ap (λ (m : MachineState). is_joined (slice_get m.tasks c)) machine_then ∙ ap is_joined (three_left old c p xl xr xp (joined_task xl) (joined_task xr) (resumed xp rl rr) il ir ip lt_p);
    right = ap (λ (m : MachineState). is_joined (slice_get m.tasks d)) machine_then ∙ ap is_joined (three_right old c p xl xr xp (joined_task xl) (joined_task xr) (resumed xp rl rr) il ir ip lt_p);
    tasks = λ u np nc nd. ap (λ (m : MachineState). slice_get m.tasks u) machine_then ∙ three_other old c p xl xr xp (joined_task xl) (joined_task xr) (resumed xp rl rr) il ir ip lt_p u nc nd np;
    heap =
        ap or_fresh (with_off k2 d p emptied (λ q. omega (arith, lt_p, q)) ∙ (with_off k1 c p emptied (λ q. omega (arith, lt_p, q)) ∙ with_at joined_then p (λ h. merged h (heap_of joined_then c) (heap_of joined_then d))))
        ∙ then_some (λ h. merged h (heap_of l c) (heap_of l d)) p (got_within old p xp ip);
    heap_left =
        ap or_fresh (with_off k2 d c emptied (λ q. omega (arith, q)) ∙ (with_at k1 c emptied ∙ ap (heap_then emptied) (with_off joined_then p c (λ h. merged h (heap_of joined_then c) (heap_of joined_then d)) (λ q. omega (arith, lt_p, q)))))
        ∙ then_some emptied c (got_within old c xl il);
    heap_right =
        ap or_fresh (with_at k2 d emptied ∙ ap (heap_then emptied) (with_off k1 c d emptied (λ q. omega (arith, q)) ∙ with_off joined_then p d (λ h. merged h (heap_of joined_then c) (heap_of joined_then d)) (λ q. omega (arith, lt_p, q))))
        ∙ then_some emptied d (got_within old d xr ir);
    heaps = λ u np nc nd. ap or_fresh (with_off k2 d u emptied nd ∙ (with_off k1 c u emptied nc ∙ with_off joined_then p u (λ h. merged h (heap_of joined_then c) (heap_of joined_then d)) np));
  }
