-- What a step's lines tell of tasks, by the step's edges.
use Rattle.run_turn_laws.proofs.Common.{◌≡◌, ◌<◌, ◌+◌, ◌*◌, ◌-◌, ◌==◌, ℕ, ℤ, Bool, true, false, List, [], ◌∷◌, ◌++◌, length, slice_get, slice_set, ◌⊎◌, inl, inr, Option, Some, None, arith, refl, ap, sym, subst, ◌∙◌, cond, append-nil, append_assoc, length-append, ne_eqb, eq-eqb, cond-true, cond-false, flat_map-append, got_same, GraphTurn, Spawn, Join, GraphStrand, strand as graph_strand, Act, Event, event, Spot, ProgramText, IsForkJoinState, waiting, joins_of, joins_in, running_tells, grown_at, three_left, three_right, three_top, below, wp, parr, step_cases, runs_is, onward, edge, runs, waits, is_over, is_running, is_waiting, parent_of, strand_of, is_left, child, joined_task, resumed, join_of, ended_task, ended_by, result_of, step, Edge, MachineState, Name, Object, Task, Running, Waiting, Joined, turn_at, turns_of, open_turns, RowsOf, spot_after, turn_by, turns_by, TellEdges, left_of, join_lines, turn_lines, moved_lines}
use Rattle.log_lines.specs.declared.line.Act.TheVariants as acts
use Rattle.log_lines.specs.declared.line.LogLine.TheVariants as lines
use Rattle.hh_model.specs.Step.{strand}
use Rattle.hh_model.specs.declared.data.End.{End}
use Rattle.run_turn_laws.proofs.Told.{spot, told_both, order_more}

-- EVENTS THAT TELL EDGES

pub tell_more : (es es' : List Edge) (events : List Event) (e : Event) → TellEdges es events → e.strand.index ≡ length (turns_of es e.strand.task)
    → ((t : ℕ) → turns_of es' t ≡ turns_of es t ++ turns_by t e) → TellEdges es' (events ++ e ∷ [])
tell_more es es' events e T at new = record {
  turns = λ t. told_both events (e ∷ []) t ∙ ((λ i. T.turns t i ++ append-nil (turns_by t e) i) ∙ sym (new t));
  order = order_more [] events e T.order (at ∙ ap length (sym (T.turns e.strand.task)));
}

no_turn : (b : Bool) (turns : List GraphTurn) → turns ≡ [] → cond b turns [] ≡ []
no_turn true turns e = e
no_turn false turns e = refl

-- an act that is no turn
pub tell_plain : (es : List Edge) (events : List Event) (u : GraphStrand) (a : Act) → TellEdges es events → u.index ≡ length (turns_of es u.task) → turn_by a ≡ [] → TellEdges es (events ++ event u a ∷ [])
tell_plain es events u a T at plain =
    tell_more es es events (event u a) T at (λ t. sym (append-nil (turns_of es t)) ∙ ap (λ more. turns_of es t ++ more) (sym (no_turn (u.task == t) (turn_by a) plain)))

edge_turns : (es : List Edge) (d : Edge) (t : ℕ) → turns_of (es ++ d ∷ []) t ≡ turns_of es t ++ turn_at t d
edge_turns es d t = flat_map-append (turn_at t) es (d ∷ []) ∙ ap (λ more. turns_of es t ++ more) (append-nil (turn_at t d))

pub tell_spawn : (es : List Edge) (events : List Event) (t i j c : ℕ) → TellEdges es events → i ≡ length (turns_of es t)
    → TellEdges (es ++ edge (strand t j) (strand c 0) ∷ []) (events ++ event (graph_strand t i) (acts.Spawn c) ∷ [])
tell_spawn es events t i j c T at = tell_more es (es ++ edge (strand t j) (strand c 0) ∷ []) events (event (graph_strand t i) (acts.Spawn c)) T at (λ u. edge_turns es (edge (strand t j) (strand c 0)) u)

join_turn : (u t j c k : ℕ) → turn_at u (edge (strand c k) (strand t (j + 1))) ≡ cond (t == u) (Join c ∷ []) []
join_turn u t j c k = rw (ne_eqb (j + 1) 0 (λ e. omega (arith, e))) refl

pub tell_join : (es : List Edge) (events : List Event) (t i j c k : ℕ) → TellEdges es events → i ≡ length (turns_of es t)
    → TellEdges (es ++ edge (strand c k) (strand t (j + 1)) ∷ []) (events ++ event (graph_strand t i) (acts.Join c) ∷ [])
tell_join es events t i j c k T at =
    tell_more es (es ++ edge (strand c k) (strand t (j + 1)) ∷ []) events (event (graph_strand t i) (acts.Join c)) T at
    (λ u. edge_turns es (edge (strand c k) (strand t (j + 1))) u ∙ ap (λ more. turns_of es u ++ more) (join_turn u t j c k))

-- A STEP OF A RUNNING TASK

open_none : (b : Bool) → b ≡ false → open_turns b ≡ 0
open_none b e = ap open_turns e

open_two : (b : Bool) → b ≡ true → open_turns b ≡ 2
open_two b e = ap open_turns e

module _ (p : ProgramText) (m : MachineState) (t : ℕ) (K : IsForkJoinState m) (R : RowsOf m) (x : Task) (is : slice_get m.tasks t ≡ Some x) (run : is_running (Some x) ≡ true)
    (events : List Event) (T : TellEdges m.edges events) where
  -- the strand on which the task's step is told
  abbrev u : GraphStrand
  u = graph_strand t (4 * joins_in m.tasks t)

  tells : (is_over x.status ≡ false) × (waits x.status ≡ false)
  tells = running_tells x.status run

  at_end : u.index ≡ length (turns_of m.edges t)
  at_end =
      let c = R.count t in
      let z : open_turns (waiting m.tasks t) ≡ 0 = open_none (waiting m.tasks t) (ap is_waiting is ∙ tells.1) in
      omega (arith, c, z)

  -- how the step's turns are told in the state that it led to
  abbrev pub Moved : MachineState → Type 0
  Moved m' =
      (s : Spot) × (spot_after (spot (Some u) events) (moved_lines (length m.tasks) m' t (slice_get m'.tasks t)) ≡ s)
      × (s.closed ≡ false) × TellEdges m'.edges s.events
      × (is_running (slice_get m'.tasks t) ≡ true → s.here ≡ Some (graph_strand t (4 * joins_in m'.tasks t)))

  -- nothing but the state of running tasks changed
  runs_on : (m' : MachineState) (y : Task) → slice_get m'.tasks t ≡ Some y → y.status ≡ Running → m'.edges ≡ m.edges → joins_in m'.tasks t ≡ joins_in m.tasks t → Moved m'
  runs_on m' y at s ee ej = (
    spot (Some u) events,
    ap (λ o. spot_after (spot (Some u) events) (moved_lines (length m.tasks) m' t o)) at ∙ ap (λ k. spot_after (spot (Some u) events) (turn_lines (length m.tasks) m' t y.parent k)) s,
    refl,
    subst (λ es. TellEdges es events) (sym ee) T,
    λ r. ap (λ j. Some (graph_strand t (4 * j))) (sym ej),
  )

  idle : Moved m
  idle = runs_on m x is (runs_is x.status run) refl refl

  halts : (e : End) → Moved (ended_by m e)
  halts e = runs_on (ended_by m e) x is (runs_is x.status run) refl refl

  stays : (y : Task) (store : List (List Object)) (outs : List ℤ) → y.status ≡ x.status → y.joins ≡ x.joins → Moved (record m { tasks = slice_set m.tasks t y; store = store; outputs = outs })
  stays y store outs es ej =
      runs_on (record m { tasks = slice_set m.tasks t y; store = store; outputs = outs }) y (got_same m.tasks t x y is) (es ∙ runs_is x.status run) refl
      (ap joins_of (got_same m.tasks t x y is) ∙ (ej ∙ sym (ap joins_of is)))

  not_running : (m' : MachineState) (y : Task) (A : Type 0) → slice_get m'.tasks t ≡ Some y → runs y.status ≡ false → is_running (slice_get m'.tasks t) ≡ true → A
  not_running m' y A at stopped running = absurd (let e : true ≡ false = sym running ∙ (ap is_running at ∙ stopped) in cc)

  ends : (e : Option End) → Moved (record m { tasks = slice_set m.tasks t (ended_task x (result_of x.top)); end = e })
  ends e =
      let y : Task = ended_task x (result_of x.top) in
      let m' : MachineState = record m { tasks = slice_set m.tasks t y; end = e } in
      let at : slice_get m'.tasks t ≡ Some y = got_same m.tasks t x y is in (
        record { here = None; closed = false; events = events ++ event u acts.Finish ∷ [] },
        ap (λ o. spot_after (spot (Some u) events) (moved_lines (length m.tasks) m' t o)) at,
        refl,
        tell_plain m.edges events u acts.Finish T at_end refl,
        not_running m' y _ at refl,
      )

  forks : (g h : ℕ) → Moved (record m {
    tasks = slice_set m.tasks t (record x { status = Waiting; top = onward x.top }) ++ child t (x.depth + 1) g x.top ∷ child t (x.depth + 1) h x.top ∷ [];
    store = m.store ++ [] ∷ [] ∷ [];
    edges = m.edges ++ edge (strand_of t x) (strand (length m.tasks) 0) ∷ edge (strand_of t x) (strand (length m.tasks + 1) 0) ∷ [];
  })
  forks g h =
      let y : Task = record x { status = Waiting; top = onward x.top } in
      let n : ℕ = length m.tasks in
      let d1 : Edge = edge (strand_of t x) (strand n 0) in
      let d2 : Edge = edge (strand_of t x) (strand (n + 1) 0) in
      let m' : MachineState = record m { tasks = slice_set m.tasks t y ++ child t (x.depth + 1) g x.top ∷ child t (x.depth + 1) h x.top ∷ []; store = m.store ++ [] ∷ [] ∷ []; edges = m.edges ++ d1 ∷ d2 ∷ [] } in
      let at : slice_get m'.tasks t ≡ Some y = grown_at m.tasks t x y (child t (x.depth + 1) g x.top) (child t (x.depth + 1) h x.top) is in
      let first : List Event = events ++ event u (acts.Spawn n) ∷ [] in
      let v : GraphStrand = graph_strand t (4 * joins_in m.tasks t + 1) in
      let told_one : TellEdges (m.edges ++ d1 ∷ []) first = tell_spawn m.edges events t u.index x.joins n T at_end in
      let one : length (turns_of (m.edges ++ d1 ∷ []) t) ≡ length (turns_of m.edges t) + 1 =
      ap length (edge_turns m.edges d1 t) ∙ (length-append (turns_of m.edges t) (turn_at t d1) ∙ ap (λ k. length (turns_of m.edges t) + k) (one_turn t n)) in
      let next : v.index ≡ length (turns_of (m.edges ++ d1 ∷ []) t) = (let a = at_end in omega (arith, one, a)) in
      let told_two : TellEdges ((m.edges ++ d1 ∷ []) ++ d2 ∷ []) (first ++ event v (acts.Spawn (n + 1)) ∷ []) = tell_spawn (m.edges ++ d1 ∷ []) first t v.index x.joins (n + 1) told_one next in (
        record { here = Some (graph_strand t (v.index + 1)); closed = false; events = first ++ event v (acts.Spawn (n + 1)) ∷ [] },
        ap (λ o. spot_after (spot (Some u) events) (moved_lines (length m.tasks) m' t o)) at,
        refl,
        subst (λ es. TellEdges es (first ++ event v (acts.Spawn (n + 1)) ∷ [])) (append_assoc m.edges (d1 ∷ []) (d2 ∷ [])) told_two,
        not_running m' y _ at refl,
      )
    where
      one_turn : (t n : ℕ) → length (cond (t == t) (Spawn n ∷ []) []) ≡ 1
      one_turn t n = rw (eq-eqb t t refl) refl

  module _ (q l : ℕ) (xp xl xr : Task) (rl rr : ℤ × Option Name)
      (ip : slice_get m.tasks q ≡ Some xp) (il : slice_get m.tasks l ≡ Some xl) (ir : slice_get m.tasks (l + 1) ≡ Some xr)
      (pl : xl.parent ≡ Some q) (left : is_left l ≡ true) (dl : is_over xl.status ≡ false) (dr : is_over xr.status ≡ false) (wl : waits xl.status ≡ false) (wr : waits xr.status ≡ false) where
    abbrev yl : Task
    yl = joined_task xl

    abbrev yr : Task
    yr = joined_task xr

    abbrev yp : Task
    yp = resumed xp rl rr

    abbrev m' : MachineState
    m' = join_of m q xp l xl xr rl rr

    lt : q < l
    lt = below m.tasks m.edges l q xl xr xp rl rr il ir ip pl left dl dr wl wr K.tree

    -- the strand of the parent on which its joins are told, and the one behind the first
    abbrev v : GraphStrand
    v = graph_strand q (4 * joins_in m'.tasks q - 2)

    abbrev w : GraphStrand
    w = graph_strand q (4 * joins_in m'.tasks q - 2 + 1)

    abbrev d1 : Edge
    d1 = edge (strand_of l xl) (strand q (xp.joins + 1))

    abbrev d2 : Edge
    d2 = edge (strand_of (l + 1) xr) (strand q (xp.joins + 1))

    more : joins_in m'.tasks q ≡ joins_in m.tasks q + 1
    more = ap joins_of (three_top m.tasks l q xl xr xp yl yr yp il ir ip lt) ∙ ap (λ k. k + 1) (sym (ap joins_of ip))

    parent_turns : v.index ≡ length (turns_of m.edges q)
    parent_turns =
        let c = R.count q in
        let z : open_turns (waiting m.tasks q) ≡ 2 = open_two (waiting m.tasks q) (wp m.tasks m.edges l q xl xr xp rl rr il ir ip pl left dl dr wl wr K.tree) in
        let e = more in
        omega (arith, c, z, e)

    one_turn : length (turn_at q d1) ≡ 1
    one_turn = ap length (join_turn q q xp.joins l xl.joins) ∙ rw (eq-eqb q q refl) refl

    abbrev es1 : List Event
    es1 = events ++ event u acts.Finish ∷ []

    abbrev es2 : List Event
    es2 = es1 ++ event v (acts.Join l) ∷ []

    abbrev es3 : List Event
    es3 = es2 ++ event w (acts.Join (l + 1)) ∷ []

    told_one : TellEdges m.edges es1
    told_one = tell_plain m.edges events u acts.Finish T at_end refl

    told_two : TellEdges (m.edges ++ d1 ∷ []) es2
    told_two = tell_join m.edges es1 q v.index xp.joins l xl.joins told_one parent_turns

    next : w.index ≡ length (turns_of (m.edges ++ d1 ∷ []) q)
    next =
        let a : length (turns_of (m.edges ++ d1 ∷ []) q) ≡ length (turns_of m.edges q) + length (turn_at q d1) = ap length (edge_turns m.edges d1 q) ∙ length-append (turns_of m.edges q) (turn_at q d1) in
        let b = one_turn in
        let c = parent_turns in
        omega (arith, a, b, c)

    told_three : TellEdges m'.edges es3
    told_three = subst (λ es. TellEdges es es3) (append_assoc m.edges (d1 ∷ []) (d2 ∷ [])) (tell_join (m.edges ++ d1 ∷ []) es2 q w.index xp.joins (l + 1) xr.joins told_two next)

    joined : (y : Task) → slice_get m'.tasks t ≡ Some y → y.status ≡ Joined → y.parent ≡ Some q → left_of t ≡ l → Moved m'
    joined y at s par one = (
      record { here = Some (graph_strand q (w.index + 1)); closed = false; events = es3 },
      ap (λ o. spot_after (spot (Some u) events) (moved_lines (length m.tasks) m' t o)) at
          ∙ (ap (λ k. spot_after (spot (Some u) events) (turn_lines (length m.tasks) m' t y.parent k)) s
          ∙ (ap (λ o. spot_after (spot (Some u) events) (lines.Act acts.Finish ∷ join_lines m' (left_of t) o)) par
          ∙ ap (λ k. spot_after (spot (Some u) events) (lines.Act acts.Finish ∷ join_lines m' k (Some q))) one)),
      refl,
      told_three,
      not_running m' y _ at (ap runs s),
    )

    joins : (((t ≡ l) × (is_left t ≡ true) × (runs xl.status ≡ true) × (runs xr.status ≡ false)) ⊎ ((t ≡ l + 1) × (is_left t ≡ false) × (runs xr.status ≡ true) × (runs xl.status ≡ false)))
        → Moved m'
    joins side = elim side [
      | inl a ↦ joined yl (ap (slice_get m'.tasks) a.0 ∙ three_left m.tasks l q xl xr xp yl yr yp il ir ip lt) refl pl (cond-true (is_left t) t (t - 1) a.1 ∙ a.0)
      | inr a ↦ joined yr (ap (slice_get m'.tasks) a.0 ∙ three_right m.tasks l q xl xr xp yl yr yp il ir ip lt) refl
          (sym (ap parent_of ir) ∙ parr m.tasks m.edges l q xl xr xp rl rr il ir ip pl left dl dr wl wr K.tree)
          (cond-false (is_left t) t (t - 1) a.1 ∙ (let e = a.0 in let z : t - 1 ≡ l = omega (arith, e) in z))
    ]

  pub moved : Moved (step p m t)
  moved =
      step_cases p m t K Moved idle
      (λ x' e is' run' why. halts e)
      (λ x' y store outs is' run' ep ed es ej names fields alters grows. stays y store outs (es ∙ ap (λ (k : Task). k.status) (got_one x' is')) (ej ∙ ap (λ (k : Task). k.joins) (got_one x' is')))
      (λ x' parent e is' run' pp which result. subst (λ (k : Task). Moved (record m { tasks = slice_set m.tasks t (ended_task k (result_of k.top)); end = e })) (sym (got_one x' is')) (ends e))
      (λ x' g h is' run' next' names. subst (λ (k : Task). Moved (record m {
        tasks = slice_set m.tasks t (record k { status = Waiting; top = onward k.top }) ++ child t (k.depth + 1) g k.top ∷ child t (k.depth + 1) h k.top ∷ [];
        store = m.store ++ [] ∷ [] ∷ [];
        edges = m.edges ++ edge (strand_of t k) (strand (length m.tasks) 0) ∷ edge (strand_of t k) (strand (length m.tasks + 1) 0) ∷ [];
      })) (sym (got_one x' is')) (forks g h))
      (λ q l xp xl xr rl rr ip il ir pl left dl dr wl wr nl nr side. joins q l xp xl xr rl rr ip il ir pl left dl dr wl wr side)
    where
      got_one : (x' : Task) → slice_get m.tasks t ≡ Some x' → x' ≡ x
      got_one x' is' = let e : Some x' ≡ Some x = sym is' ∙ is in some_same x' x e
        where
          some_same : (a b : Task) → Some a ≡ Some b → a ≡ b
          some_same a b e = cc
