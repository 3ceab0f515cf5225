-- What the lines of a step tell of tasks.
use Rattle.run_graph_laws.proofs.Common.{◌≡◌, ◌<◌, ◌≤◌, ◌+◌, ◌*◌, ◌-◌, ℕ, ℤ, Bool, true, false, Option, Some, None, IfSome, List, [], ◌∷◌, ◌++◌, length, slice_get, slice_set, ◌⊎◌, inl, inr, refl, ap, sym, subst, ◌∙◌, arith, length-set, both_ways, cases_eq, cases_lt, cond-true, cond-false, In, got_same, got_other, got_within, same_view, onward, step, is_running, is_waiting, is_left, runs, waits, is_over, parent_of, child, joined_task, resumed, join_of, ended_task, ended_by, result_of, strand_of, edge, strand, joins_in, End, MachineState, Name, Task, Running, Waiting, Ended, Joined, IsForkJoinState, grown_at, grown_left, grown_right, grown_other, grown_length, three_top, three_left, three_right, three_other, three_length, below, wp, parr, running_tells, step_cases, runs_is, GraphStrand, ProgramText, spot_after, Event, event, Act, left_of, moved_lines, turn_lines, spot, strand_now, turn_events, on_strand, EndsAreLast, HasEnded, EndIsTold}
use Rattle.run_log_laws.specs.below.fork_graph.{strand as graph_strand}
use Rattle.run_turn_laws.specs.below.log_lines as acts
use Rattle.run_graph_laws.proofs.Added.{AreOver, Adds, runs_unended, waits_unended, unended_more}

-- WHAT TURNS ARE TOLD

module _ (m m' : MachineState) (t : ℕ) (y : Task) (at : slice_get m'.tasks t ≡ Some y) where
  abbrev here : GraphStrand
  here = strand_now m t

  by_task : turn_events m m' t ≡ (spot_after (spot (Some here) []) (turn_lines (length m.tasks) m' t y.parent y.status)).events
  by_task = ap (λ o. (spot_after (spot (Some here) []) (moved_lines (length m.tasks) m' t o)).events) at

  no_turns : y.status ≡ Running → turn_events m m' t ≡ []
  no_turns s = by_task ∙ ap (λ k. (spot_after (spot (Some here) []) (turn_lines (length m.tasks) m' t y.parent k)).events) s

  two_spawns : y.status ≡ Waiting → turn_events m m' t ≡ event here (acts.Spawn (length m.tasks)) ∷ event (graph_strand t (here.index + 1)) (acts.Spawn (length m.tasks + 1)) ∷ []
  two_spawns s = by_task ∙ ap (λ k. (spot_after (spot (Some here) []) (turn_lines (length m.tasks) m' t y.parent k)).events) s

  one_end : (k : ℤ) (r : Option Name) → y.status ≡ Ended k r → turn_events m m' t ≡ event here acts.Finish ∷ []
  one_end k r s = by_task ∙ ap (λ w. (spot_after (spot (Some here) []) (turn_lines (length m.tasks) m' t y.parent w)).events) s

  abbrev joins_told : ℕ → ℕ → List Event
  joins_told q l = event here acts.Finish ∷ event (graph_strand q (4 * joins_in m'.tasks q - 2)) (acts.Join l) ∷ event (graph_strand q (4 * joins_in m'.tasks q - 2 + 1)) (acts.Join (l + 1)) ∷ []

  two_joins : (q : ℕ) → y.status ≡ Joined → y.parent ≡ Some q → turn_events m m' t ≡ joins_told q (left_of t)
  two_joins q s par =
      by_task
      ∙ (ap (λ w. (spot_after (spot (Some here) []) (turn_lines (length m.tasks) m' t y.parent w)).events) s
      ∙ ap (λ o. (spot_after (spot (Some here) []) (turn_lines (length m.tasks) m' t o Joined)).events) par)

-- WHAT THEY ADD

-- nothing, where the same tasks run and wait
same_adds : (tasks after : List Task) → length after ≡ length tasks
    → ((t : ℕ) → is_running (slice_get after t) ≡ is_running (slice_get tasks t)) → ((t : ℕ) → is_waiting (slice_get after t) ≡ is_waiting (slice_get tasks t)) → Adds tasks after []
same_adds tasks after size run wait = record {
  grows = omega (arith, size);
  stays = λ t lt h. (run t ∙ h.0, wait t ∙ h.1);
  new = λ t lt h. inl ((let s = size in omega (arith, lt, s)), (sym (run t) ∙ h.0, sym (wait t) ∙ h.1));
  within = λ e i. absurd i;
  over = λ e i. absurd i;
  kept = λ e i. absurd i;
  last = λ before over. tt;
}

-- an act on the strand of a task that runs, which ends nothing and releases nothing
abbrev pub IsQuiet : Act → Type 0
IsQuiet a = (a ≡ acts.Finish → ⊥) × ((block : ℕ) → a ≡ acts.Release block → ⊥)

pub act_adds : (tasks : List Task) (u : GraphStrand) (o : Option Act) → IfSome o IsQuiet → u.task < length tasks → is_running (slice_get tasks u.task) ≡ true → Adds tasks tasks (on_strand u o)
act_adds tasks u None quiet there run = same_adds tasks tasks refl (λ t. refl) (λ t. refl)
act_adds tasks u (Some a) quiet there run = record {
  grows = omega arith;
  stays = λ t lt h. h;
  new = λ t lt h. inl (lt, h);
  within = λ e i. elim i [ inl same ↦ subst (λ (x : Event). x.strand.task < length tasks) same there | inr none ↦ absurd none ];
  over = λ e i f. elim i [ inl same ↦ absurd (quiet.0 (ap (λ (x : Event). x.act) same ∙ f)) | inr none ↦ absurd none ];
  kept = λ e i block f. elim i [ inl same ↦ quiet.1 block (ap (λ (x : Event). x.act) same ∙ f) | inr none ↦ absurd none ];
  last = λ before over. (runs_unended tasks u.task before run over, tt);
}

no_end : {A : Type 0} (a : Act) → (a ≡ acts.Finish → ⊥) → a ≡ acts.Finish → A
no_end a h e = absurd (h e)

module _ (p : ProgramText) (m : MachineState) (t : ℕ) (K : IsForkJoinState m) (x : Task) (is : slice_get m.tasks t ≡ Some x) (run : is_running (Some x) ≡ true) where
  runs_now : is_running (slice_get m.tasks t) ≡ true
  runs_now = ap is_running is ∙ run

  there : t < length m.tasks
  there = got_within m.tasks t x is

  -- who has ended isn't the task that runs
  not_here : (u : ℕ) → HasEnded m.tasks u → u ≡ t → ⊥
  not_here u h e = both_ways (is_running (slice_get m.tasks t)) (subst (HasEnded m.tasks) e h).0 runs_now

  abbrev AddsTurns : MachineState → Type 0
  AddsTurns m' = Adds m.tasks m'.tasks (turn_events m m' t)

  quietly : (m' : MachineState) (y : Task) → slice_get m'.tasks t ≡ Some y → y.status ≡ Running → Adds m.tasks m'.tasks [] → AddsTurns m'
  quietly m' y at s none = subst (Adds m.tasks m'.tasks) (sym (no_turns m m' t y at s)) none

  ends_now : (m' : MachineState) (y : Task) (k : ℤ) (r : Option Name) → m'.tasks ≡ slice_set m.tasks t y → y.status ≡ Ended k r → AddsTurns m'
  ends_now m' y k r all s =
      let at : slice_get m'.tasks t ≡ Some y = ap (λ ts. slice_get ts t) all ∙ got_same m.tasks t x y is in
      let size : length m'.tasks ≡ length m.tasks = ap length all ∙ length-set m.tasks t y in
      let ended : HasEnded m'.tasks t = (ap is_running at ∙ ap runs s, ap is_waiting at ∙ ap waits s) in
      subst (Adds m.tasks m'.tasks) (sym (one_end m m' t y at k r s)) (record {
        grows = omega (arith, size);
        stays = λ u lt h. (ap is_running (same u (not_here u h)) ∙ h.0, ap is_waiting (same u (not_here u h)) ∙ h.1);
        new = λ u lt h. elim (cases_eq u t) [
          | inl e ↦ inr (event (strand_now m t) acts.Finish, inl refl, sym e, refl)
          | inr ne ↦ inl (omega (arith, lt, size), (ap is_running (sym (same u ne)) ∙ h.0, ap is_waiting (sym (same u ne)) ∙ h.1))
        ];
        within = λ e i. elim i [ inl one ↦ subst (λ (d : Event). d.strand.task < length m'.tasks) one (let l = there in omega (arith, l, size)) | inr none ↦ absurd none ];
        over = λ e i f. elim i [ inl one ↦ subst (λ (d : Event). HasEnded m'.tasks d.strand.task) one ended | inr none ↦ absurd none ];
        kept = λ e i block f. elim i [ inl one ↦ absurd (let z : acts.Finish ≡ acts.Release block = ap (λ (d : Event). d.act) one ∙ f in cc) | inr none ↦ absurd none ];
        last = λ before over. (runs_unended m.tasks t before runs_now over, tt);
      })
    where
      same : (u : ℕ) → (u ≡ t → ⊥) → slice_get m'.tasks u ≡ slice_get m.tasks u
      same u ne = ap (λ ts. slice_get ts u) all ∙ got_other m.tasks t u y ne

  forks : (m' : MachineState) (y c d : Task) → m'.tasks ≡ slice_set m.tasks t y ++ c ∷ d ∷ [] → y.status ≡ Waiting → c.status ≡ Running → d.status ≡ Running → AddsTurns m'
  forks m' y c d all s sc sd =
      let n : ℕ = length m.tasks in
      let at : slice_get m'.tasks t ≡ Some y = ap (λ ts. slice_get ts t) all ∙ grown_at m.tasks t x y c d is in
      let size : length m'.tasks ≡ n + 2 = ap length all ∙ grown_length m.tasks t x y c d is in
      let l = there in
      subst (Adds m.tasks m'.tasks) (sym (two_spawns m m' t y at s)) (record {
        grows = omega (arith, size);
        stays = λ u lt h. (ap is_running (same u lt (not_here u h)) ∙ h.0, ap is_waiting (same u lt (not_here u h)) ∙ h.1);
        new = λ u lt h. inl (was u lt h);
        within = λ e i. elim i [
          | inl one ↦ subst (λ (d : Event). d.strand.task < length m'.tasks) one (omega (arith, l, size))
          | inr more ↦ elim more [ inl two ↦ subst (λ (d : Event). d.strand.task < length m'.tasks) two (omega (arith, l, size)) | inr none ↦ absurd none ]
        ];
        over = λ e i f. elim i [
          | inl one ↦ absurd (let z : acts.Spawn n ≡ acts.Finish = ap (λ (d : Event). d.act) one ∙ f in cc)
          | inr more ↦ elim more [ inl two ↦ absurd (let z : acts.Spawn (n + 1) ≡ acts.Finish = ap (λ (d : Event). d.act) two ∙ f in cc) | inr none ↦ absurd none ]
        ];
        kept = λ e i block f. elim i [
          | inl one ↦ absurd (let z : acts.Spawn n ≡ acts.Release block = ap (λ (d : Event). d.act) one ∙ f in cc)
          | inr more ↦ elim more [ inl two ↦ absurd (let z : acts.Spawn (n + 1) ≡ acts.Release block = ap (λ (d : Event). d.act) two ∙ f in cc) | inr none ↦ absurd none ]
        ];
        last = λ before over.
            let un = runs_unended m.tasks t before runs_now over in
            (un, (unended_more before (event (strand_now m t) (acts.Spawn n)) t un (λ e f. let z : acts.Spawn n ≡ acts.Finish = f in cc), tt));
      })
    where
      same : (u : ℕ) → u < length m.tasks → (u ≡ t → ⊥) → slice_get m'.tasks u ≡ slice_get m.tasks u
      same u lt ne = ap (λ ts. slice_get ts u) all ∙ grown_other m.tasks t x y c d is u lt ne

      -- the children run, and the parent waits
      was : (u : ℕ) → u < length m'.tasks → HasEnded m'.tasks u → (u < length m.tasks) × HasEnded m.tasks u
      was u lt h = elim (cases_lt u (length m.tasks)) [
        | inl old ↦ elim (cases_eq u t) [
          | inl e ↦ absurd (both_ways (is_waiting (slice_get m'.tasks t)) (subst (HasEnded m'.tasks) e h).1 (ap (λ ts. is_waiting (slice_get ts t)) all ∙ (ap is_waiting (grown_at m.tasks t x y c d is) ∙ ap waits s)))
          | inr ne ↦ (old, (ap is_running (sym (same u old ne)) ∙ h.0, ap is_waiting (sym (same u old ne)) ∙ h.1))
        ]
        | inr ge ↦ elim (cases_eq u (length m.tasks)) [
          | inl e ↦ absurd (both_ways (is_running (slice_get m'.tasks (length m.tasks))) (subst (HasEnded m'.tasks) e h).0 (ap (λ ts. is_running (slice_get ts (length m.tasks))) all ∙ (ap is_running (grown_left m.tasks t x y c d is) ∙ ap runs sc)))
          | inr ne ↦
              let size : length m'.tasks ≡ length m.tasks + 2 = ap length all ∙ grown_length m.tasks t x y c d is in
              let e : u ≡ length m.tasks + 1 = omega (arith, lt, size, ge, ne) in
              absurd (both_ways (is_running (slice_get m'.tasks (length m.tasks + 1))) (subst (HasEnded m'.tasks) e h).0 (ap (λ ts. is_running (slice_get ts (length m.tasks + 1))) all ∙ (ap is_running (grown_right m.tasks t x y c d is) ∙ ap runs sd)))
        ]
      ]

  module _ (q l : ℕ) (xp xl xr : Task) (rl rr : ℤ × Option Name)
      (ip : slice_get m.tasks q ≡ Some xp) (il : slice_get m.tasks l ≡ Some xl) (ir : slice_get m.tasks (l + 1) ≡ Some xr)
      (pl : xl.parent ≡ Some q) (left : is_left l ≡ true) (dl : is_over xl.status ≡ false) (dr : is_over xr.status ≡ false) (wl : waits xl.status ≡ false) (wr : waits xr.status ≡ false) where
    abbrev m' : MachineState
    m' = join_of m q xp l xl xr rl rr

    lt : q < l
    lt = below m.tasks m.edges l q xl xr xp rl rr il ir ip pl left dl dr wl wr K.tree

    at_top : slice_get m'.tasks q ≡ Some (resumed xp rl rr)
    at_top = three_top m.tasks l q xl xr xp (joined_task xl) (joined_task xr) (resumed xp rl rr) il ir ip lt

    at_left : slice_get m'.tasks l ≡ Some (joined_task xl)
    at_left = three_left m.tasks l q xl xr xp (joined_task xl) (joined_task xr) (resumed xp rl rr) il ir ip lt

    at_right : slice_get m'.tasks (l + 1) ≡ Some (joined_task xr)
    at_right = three_right m.tasks l q xl xr xp (joined_task xl) (joined_task xr) (resumed xp rl rr) il ir ip lt

    others : (u : ℕ) → (u ≡ l → ⊥) → (u ≡ l + 1 → ⊥) → (u ≡ q → ⊥) → slice_get m'.tasks u ≡ slice_get m.tasks u
    others = three_other m.tasks l q xl xr xp (joined_task xl) (joined_task xr) (resumed xp rl rr) il ir ip lt

    size : length m'.tasks ≡ length m.tasks
    size = three_length m.tasks l q xl xr xp (joined_task xl) (joined_task xr) (resumed xp rl rr) il ir ip lt

    waits_now : is_waiting (slice_get m.tasks q) ≡ true
    waits_now = wp m.tasks m.edges l q xl xr xp rl rr il ir ip pl left dl dr wl wr K.tree

    ended_left : HasEnded m'.tasks l
    ended_left = (ap is_running at_left, ap is_waiting at_left)

    ended_right : HasEnded m'.tasks (l + 1)
    ended_right = (ap is_running at_right, ap is_waiting at_right)

    stays_ended : (u : ℕ) → HasEnded m.tasks u → HasEnded m'.tasks u
    stays_ended u h = elim (cases_eq u l) [
      | inl e ↦ subst (HasEnded m'.tasks) (sym e) ended_left
      | inr nl ↦ elim (cases_eq u (l + 1)) [
        | inl e ↦ subst (HasEnded m'.tasks) (sym e) ended_right
        | inr nr ↦ elim (cases_eq u q) [
          | inl e ↦ absurd (both_ways (is_waiting (slice_get m.tasks q)) (subst (HasEnded m.tasks) e h).1 waits_now)
          | inr nq ↦ (ap is_running (others u nl nr nq) ∙ h.0, ap is_waiting (others u nl nr nq) ∙ h.1)
        ]
      ]
    ]

    -- the child that joins now, and its sibling, which has ended before
    abbrev Side : Type 0
    Side = (((t ≡ l) × (is_left t ≡ true) × (runs xl.status ≡ true) × (runs xr.status ≡ false)) ⊎ ((t ≡ l + 1) × (is_left t ≡ false) × (runs xr.status ≡ true) × (runs xl.status ≡ false)))

    module _ (side : Side) (y : Task) (at : slice_get m'.tasks t ≡ Some y) (s : y.status ≡ Joined) (par : y.parent ≡ Some q) (ended : HasEnded m'.tasks t) (nq : t ≡ q → ⊥)
        (sibling_ended : (u : ℕ) → (u ≡ t → ⊥) → (u ≡ l) ⊎ (u ≡ l + 1) → HasEnded m.tasks u) where
      abbrev more : List Event
      more = joins_told m m' t y at q (left_of t)

      was : (u : ℕ) → u < length m'.tasks → HasEnded m'.tasks u → ((u < length m.tasks) × HasEnded m.tasks u) ⊎ EndIsTold more u
      was u few h = elim (cases_eq u t) [
        | inl e ↦ inr (event (strand_now m t) acts.Finish, inl refl, sym e, refl)
        | inr nt ↦ inl (
          let z = size in omega (arith, few, z),
          elim (cases_eq u l) [
            | inl e ↦ sibling_ended u nt (inl e)
            | inr nl ↦ elim (cases_eq u (l + 1)) [
              | inl e ↦ sibling_ended u nt (inr e)
              | inr nr ↦ elim (cases_eq u q) [
                | inl e ↦ absurd (both_ways (is_running (slice_get m'.tasks q)) (subst (HasEnded m'.tasks) e h).0 (ap is_running at_top))
                | inr nu ↦ (ap is_running (sym (others u nl nr nu)) ∙ h.0, ap is_waiting (sym (others u nl nr nu)) ∙ h.1)
              ]
            ]
          ],
        )
      ]

      no_finish : (k : ℕ) → acts.Join k ≡ acts.Finish → ⊥
      no_finish k e = cc

      no_release : (k b : ℕ) → acts.Join k ≡ acts.Release b → ⊥
      no_release k b e = cc

      unended : (before : List Event) → AreOver m.tasks before → EndsAreLast before more
      unended before over =
          let un = unended_more before (event (strand_now m t) acts.Finish) q (waits_unended m.tasks q before waits_now over) (λ e f. nq e) in
          (runs_unended m.tasks t before runs_now over, (un, (unended_more (before ++ event (strand_now m t) acts.Finish ∷ []) (event (graph_strand q (4 * joins_in m'.tasks q - 2)) (acts.Join (left_of t))) q un (λ e f. no_finish (left_of t) f), tt)))

      parent_there : q < length m'.tasks
      parent_there = got_within m'.tasks q (resumed xp rl rr) at_top

      each : (P : Event → Type 0) → P (event (strand_now m t) acts.Finish) → ((i k : ℕ) → P (event (graph_strand q i) (acts.Join k))) → (e : Event) → In more e → P e
      each P first rest e (inl one) = subst P one first
      each P first rest e (inr (inl two)) = subst P two (rest _ _)
      each P first rest e (inr (inr (inl three))) = subst P three (rest _ _)
      each P first rest e (inr (inr (inr none))) = absurd none

      joined : AddsTurns m'
      joined = subst (Adds m.tasks m'.tasks) (sym (two_joins m m' t y at q s par)) (record {
        grows = (let z = size in omega (arith, z));
        stays = λ u few h. stays_ended u h;
        new = was;
        within = each (λ e. e.strand.task < length m'.tasks) (let a = there in let z = size in omega (arith, a, z)) (λ i k. parent_there);
        over = each (λ e. e.act ≡ acts.Finish → HasEnded m'.tasks e.strand.task) (λ f. ended) (λ i k f. absurd (no_finish k f));
        kept = each (λ e. (block : ℕ) → e.act ≡ acts.Release block → ⊥) (λ block f. let z : acts.Finish ≡ acts.Release block = f in cc) (λ i k block f. no_release k block f);
        last = unended;
      })

    joins : Side → AddsTurns m'
    joins (inl a) =
        joined (inl a) (joined_task xl) (ap (slice_get m'.tasks) a.0 ∙ at_left) refl pl (subst (HasEnded m'.tasks) (sym a.0) ended_left) (let e = a.0 in let z = lt in λ h. omega (arith, e, z, h))
        (λ u nt which. elim which [ inl e ↦ absurd (nt (e ∙ sym a.0)) | inr e ↦ subst (HasEnded m.tasks) (sym e) (ap is_running ir ∙ a.3, ap is_waiting ir ∙ wr) ])
    joins (inr a) =
        joined (inr a) (joined_task xr) (ap (slice_get m'.tasks) a.0 ∙ at_right) refl (sym (ap parent_of ir) ∙ parr m.tasks m.edges l q xl xr xp rl rr il ir ip pl left dl dr wl wr K.tree) (subst (HasEnded m'.tasks) (sym a.0) ended_right) (let e = a.0 in let z = lt in λ h. omega (arith, e, z, h))
        (λ u nt which. elim which [ inl e ↦ subst (HasEnded m.tasks) (sym e) (ap is_running il ∙ a.3, ap is_waiting il ∙ wl) | inr e ↦ absurd (nt (e ∙ sym a.0)) ])

  pub turns_add : AddsTurns (step p m t)
  turns_add =
      step_cases p m t K AddsTurns
      (quietly m x is (runs_is x.status run) (same_adds m.tasks m.tasks refl (λ u. refl) (λ u. refl)))
      (λ x' e is' run' why. quietly (ended_by m e) x is (runs_is x.status run) (same_adds m.tasks m.tasks refl (λ u. refl) (λ u. refl)))
      (λ x' y store outs is' run' ep ed es ej names fields alters grows.
      quietly (record m { tasks = slice_set m.tasks t y; store = store; outputs = outs }) y (got_same m.tasks t x' y is') (es ∙ runs_is x'.status run')
      (same_adds m.tasks (slice_set m.tasks t y) (length-set m.tasks t y) (λ u. ap (λ f. f u) (same_view is_running m.tasks t x' y is' (ap runs es))) (λ u. ap (λ f. f u) (same_view is_waiting m.tasks t x' y is' (ap waits es)))))
      (λ x' parent e is' run' pp which result. ends_now (record m { tasks = slice_set m.tasks t (ended_task x' (result_of x'.top)); end = e }) (ended_task x' (result_of x'.top)) (result_of x'.top).0 (result_of x'.top).1 refl refl)
      (λ x' g h is' run' next names. forks (record m {
        tasks = slice_set m.tasks t (record x' { status = Waiting; top = onward x'.top }) ++ child t (x'.depth + 1) g x'.top ∷ child t (x'.depth + 1) h x'.top ∷ [];
        store = m.store ++ [] ∷ [] ∷ [];
        edges = m.edges ++ edge (strand_of t x') (strand (length m.tasks) 0) ∷ edge (strand_of t x') (strand (length m.tasks + 1) 0) ∷ [];
      }) (record x' { status = Waiting; top = onward x'.top }) (child t (x'.depth + 1) g x'.top) (child t (x'.depth + 1) h x'.top) refl refl refl refl)
      (λ q l xp xl xr rl rr ip il ir pl left dl dr wl wr nl nr side. joins q l xp xl xr rl rr ip il ir pl left dl dr wl wr side)
