-- What a step of the machine keeps of forks: each task's parent, and which tasks have joined; a waiting task waits
-- until its children join.
use Rattle.heap_marking.proofs.Common.{◌≡◌, ◌⊎◌, ℕ, ℤ, zero, suc, ◌+◌, ◌<◌, Bool, true, false, Option, Some, List, [], ◌∷◌, ◌++◌, length, slice_get, slice_set, inl, inr, refl, ap, sym, subst, ◌∙◌, arith, false≢true, both_ways, cases_eq, cases_lt, same_Some, got_other, got_within, view_step, ProgramText, Edge, Waiting, Name, Task, MachineState, onward, child, ended_task, is_joined, is_left, is_over, is_running, is_waiting, joined, joined_task, parent_of, parents, result_of, resumed, run, run_from, sibling, start, step, waits, IsForkJoinState, TreeOf, waiting, start_is_fork_join_state, step_is_fork_join_state, below, grown_left, grown_other, grown_past, grown_right, grown_view_front, parl, parr, running_tells, sib, three_left, three_other, three_right, three_top, step_cases}

-- a task that waited still waits, with the children for which it waits, or has joined with all that it had
abbrev pub WaitsOn : List Task → List Task → ℕ → Task → Type 0
WaitsOn ts ts' u x =
    ((slice_get ts' u ≡ Some x) × ((c : ℕ) → parents ts c ≡ Some u → joined ts c ≡ false → joined ts' c ≡ false))
    ⊎ ((y : Task) × (slice_get ts' u ≡ Some y) × (x.joins < y.joins) × ((c : ℕ) → parents ts c ≡ Some u → joined ts' c ≡ true))

pub record TreeMoves (ts ts' : List Task) : Type 0 where
  pub children : (u c : ℕ) → parents ts c ≡ Some u → parents ts' c ≡ Some u
  pub stays : (c : ℕ) → joined ts c ≡ true → joined ts' c ≡ true
  pub goes : (u : ℕ) (x : Task) → slice_get ts u ≡ Some x → waits x.status ≡ true → WaitsOn ts ts' u x
  -- a task that waits has a child that hasn't joined
  pub live : ((u : ℕ) → waiting ts u ≡ true → (c : ℕ) × (parents ts c ≡ Some u) × (joined ts c ≡ false)) → (u : ℕ) → waiting ts' u ≡ true → (c : ℕ) × (parents ts' c ≡ Some u) × (joined ts' c ≡ false)

pub tree_same : (ts : List Task) → TreeMoves ts ts
tree_same ts = record {
  children = λ u c p. p;
  stays = λ c j. j;
  goes = λ u x at w. inl (at, λ c p j. j);
  live = λ h. h;
}

-- a running task is written, and still has neither forked nor joined
module _ (ts : List Task) (t : ℕ) (z y : Task) (is : slice_get ts t ≡ Some z) (run : is_running (Some z) ≡ true) (pp : y.parent ≡ z.parent) (oy : is_over y.status ≡ false) (wy : waits y.status ≡ false) where
  abbrev tells : (is_over z.status ≡ false) × (waits z.status ≡ false)
  tells = running_tells z.status run

  ts' : List Task
  ts' = slice_set ts t y

  parent_same : (c : ℕ) → parents ts' c ≡ parents ts c
  unfolding ts'
  parent_same c = view_step parent_of ts t z y is pp c

  joined_same : (c : ℕ) → joined ts' c ≡ joined ts c
  unfolding ts'
  joined_same c = view_step is_joined ts t z y is (oy ∙ sym tells.0) c

  waiting_same : (c : ℕ) → waiting ts' c ≡ waiting ts c
  unfolding ts'
  waiting_same c = view_step is_waiting ts t z y is (wy ∙ sym tells.1) c

  pub set_moves : TreeMoves ts (slice_set ts t y)
  unfolding ts'
  set_moves = record {
    children = λ u c p. parent_same c ∙ p;
    stays = λ c j. joined_same c ∙ j;
    goes = λ u x at w. inl (got_other ts t u y (λ e. both_ways (waits x.status) (ap (λ (v : Task). waits v.status) (same_Some x z (sym at ∙ (ap (slice_get ts) e ∙ is))) ∙ tells.1) w) ∙ at, λ c p j. joined_same c ∙ j);
    live = λ h u w. let c = h u (sym (waiting_same u) ∙ w) in (c.0, parent_same c.0 ∙ c.1, joined_same c.0 ∙ c.2);
  }

-- a fork
module _ (ts : List Task) (edges : List Edge) (K : TreeOf ts edges) (t g h : ℕ) (z : Task) (is : slice_get ts t ≡ Some z) (run : is_running (Some z) ≡ true) where
  abbrev over : (is_over z.status ≡ false) × (waits z.status ≡ false)
  over = running_tells z.status run

  abbrev w : Task
  w = record z { status = Waiting; top = onward z.top }

  abbrev cl : Task
  cl = child t (z.depth + 1) g z.top

  abbrev cr : Task
  cr = child t (z.depth + 1) h z.top

  abbrev all : List Task
  all = slice_set ts t w ++ cl ∷ cr ∷ []

  parent_front : (c : ℕ) → c < length ts → parents all c ≡ parents ts c
  parent_front c lt = grown_view_front ts t z w cl cr is parent_of refl c lt

  joined_front : (c : ℕ) → c < length ts → joined all c ≡ joined ts c
  joined_front c lt = grown_view_front ts t z w cl cr is is_joined (sym over.0) c lt

  made : (c u : ℕ) → parents ts c ≡ Some u → c < length ts
  made c u p = K.made c u p

  joined_made : (c : ℕ) → joined ts c ≡ true → c < length ts
  joined_made c j = let p = K.rooted c j in K.made c p.0 p.1

  waits_before : (u : ℕ) → (u ≡ t → ⊥) → waiting all u ≡ true → waiting ts u ≡ true
  waits_before u ne q = elim (cases_lt u (length ts)) [
    | inl lt ↦ ap is_waiting (sym (grown_other ts t z w cl cr is u lt ne)) ∙ q
    | inr ge ↦ elim (cases_eq u (length ts)) [
      | inl e ↦ absurd (both_ways (waiting all u) (ap (waiting all) e ∙ ap is_waiting (grown_left ts t z w cl cr is)) q)
      | inr nl ↦ elim (cases_eq u (length ts + 1)) [
        | inl e ↦ absurd (both_ways (waiting all u) (ap (waiting all) e ∙ ap is_waiting (grown_right ts t z w cl cr is)) q)
        | inr nr ↦ absurd (both_ways (waiting all u) (ap is_waiting (grown_past ts t z w cl cr is u (omega arith))) q)
      ]
    ]
  ]

  pub fork_moves : TreeMoves ts (slice_set ts t (record z { status = Waiting; top = onward z.top }) ++ child t (z.depth + 1) g z.top ∷ child t (z.depth + 1) h z.top ∷ [])
  fork_moves = record {
    children = λ u c p. parent_front c (made c u p) ∙ p;
    stays = λ c j. joined_front c (joined_made c j) ∙ j;
    goes = λ u x at wx. inl (
      grown_other ts t z w cl cr is u (got_within ts u x at) (λ e. both_ways (waits x.status) (ap (λ (v : Task). waits v.status) (same_Some x z (sym at ∙ (ap (slice_get ts) e ∙ is))) ∙ over.1) wx) ∙ at,
      λ c p j. joined_front c (made c u p) ∙ j,
    );
    live = λ f u q. elim (cases_eq u t) [
      | inl e ↦ (length ts, ap parent_of (grown_left ts t z w cl cr is) ∙ ap Some (sym e), ap is_joined (grown_left ts t z w cl cr is))
      | inr ne ↦ let c = f u (waits_before u ne q) in (c.0, parent_front c.0 (made c.0 u c.1) ∙ c.1, joined_front c.0 (made c.0 u c.1) ∙ c.2)
    ];
  }

-- a join
module _ (ts : List Task) (edges : List Edge) (K : TreeOf ts edges) (p l : ℕ) (xp xl xr : Task) (rl rr : ℤ × Option Name)
    (ip : slice_get ts p ≡ Some xp) (il : slice_get ts l ≡ Some xl) (ir : slice_get ts (l + 1) ≡ Some xr) (pl : xl.parent ≡ Some p) (left : is_left l ≡ true)
    (dl : is_over xl.status ≡ false) (dr : is_over xr.status ≡ false) (wl : waits xl.status ≡ false) (wr : waits xr.status ≡ false) where
  abbrev then : List Task
  then = slice_set (slice_set (slice_set ts l (joined_task xl)) (l + 1) (joined_task xr)) p (resumed xp rl rr)

  under : p < l
  under = below ts edges l p xl xr xp rl rr il ir ip pl left dl dr wl wr K

  at_top : slice_get then p ≡ Some (resumed xp rl rr)
  at_top = three_top ts l p xl xr xp (joined_task xl) (joined_task xr) (resumed xp rl rr) il ir ip under

  at_left : slice_get then l ≡ Some (joined_task xl)
  at_left = three_left ts l p xl xr xp (joined_task xl) (joined_task xr) (resumed xp rl rr) il ir ip under

  at_right : slice_get then (l + 1) ≡ Some (joined_task xr)
  at_right = three_right ts l p xl xr xp (joined_task xl) (joined_task xr) (resumed xp rl rr) il ir ip under

  at_other : (u : ℕ) → (u ≡ l → ⊥) → (u ≡ l + 1 → ⊥) → (u ≡ p → ⊥) → slice_get then u ≡ slice_get ts u
  at_other u nl nr np = three_other ts l p xl xr xp (joined_task xl) (joined_task xr) (resumed xp rl rr) il ir ip under u nl nr np

  parent_left : parents ts l ≡ Some p
  parent_left = parl ts edges l p xl xr xp rl rr il ir ip pl left dl dr wl wr K

  next : sibling l ≡ l + 1
  next = sib ts edges l p xl xr xp rl rr il ir ip pl left dl dr wl wr K

  parent_right : parents ts (l + 1) ≡ Some p
  parent_right = parr ts edges l p xl xr xp rl rr il ir ip pl left dl dr wl wr K

  top_live : joined ts p ≡ false
  top_live = K.apart p (K.waits l p parent_left (ap is_joined il ∙ dl))

  -- by the status of the task
  four : (C : ℕ → Type 0) → C p → C l → C (l + 1) → ((u : ℕ) → (u ≡ l → ⊥) → (u ≡ l + 1 → ⊥) → (u ≡ p → ⊥) → C u) → (u : ℕ) → C u
  four C cp cl cr co u = elim (cases_eq u p) [
    | inl e ↦ subst C (sym e) cp
    | inr np ↦ elim (cases_eq u l) [
      | inl e ↦ subst C (sym e) cl
      | inr nl ↦ elim (cases_eq u (l + 1)) [ inl e ↦ subst C (sym e) cr | inr nr ↦ co u nl nr np ]
    ]
  ]

  parent_then : (c : ℕ) → parents then c ≡ parents ts c
  parent_then = four (λ c. parents then c ≡ parents ts c)
      (ap parent_of at_top ∙ sym (ap parent_of ip)) (ap parent_of at_left ∙ sym (ap parent_of il)) (ap parent_of at_right ∙ sym (ap parent_of ir)) (λ u nl nr np. ap parent_of (at_other u nl nr np))

  joined_then : (c : ℕ) → joined ts c ≡ true → joined then c ≡ true
  joined_then = four (λ c. joined ts c ≡ true → joined then c ≡ true)
      (λ j. absurd (both_ways (joined ts p) top_live j)) (λ j. ap is_joined at_left) (λ j. ap is_joined at_right) (λ u nl nr np j. ap is_joined (at_other u nl nr np) ∙ j)

  -- the children of p have all joined
  all_joined : (c : ℕ) → parents ts c ≡ Some p → joined then c ≡ true
  all_joined c pc = all_joined_by_cases (joined ts c) refl
    where
      all_joined_by_cases : (b : Bool) → joined ts c ≡ b → joined then c ≡ true
      all_joined_by_cases true e = joined_then c e
      all_joined_by_cases false e = elim (K.brothers l c p parent_left pc (ap is_joined il ∙ dl) e) [
        | inl same ↦ ap (joined then) same ∙ ap is_joined at_left
        | inr sib ↦ ap (joined then) (sib ∙ next) ∙ ap is_joined at_right
      ]

  -- those of other tasks are unchanged
  live_then : (u c : ℕ) → (u ≡ p → ⊥) → parents ts c ≡ Some u → joined ts c ≡ false → joined then c ≡ false
  live_then u c ne = four (λ c. parents ts c ≡ Some u → joined ts c ≡ false → joined then c ≡ false)
      (λ pc j. ap is_joined at_top) (λ pc j. absurd (ne (same_Some u p (sym pc ∙ parent_left)))) (λ pc j. absurd (ne (same_Some u p (sym pc ∙ parent_right)))) (λ v nl nr np pc j. ap is_joined (at_other v nl nr np) ∙ j) c

  waits_then : (u : ℕ) (x : Task) → slice_get ts u ≡ Some x → waits x.status ≡ true → WaitsOn ts then u x
  waits_then u x at w = elim (cases_eq u p) [
    | inl e ↦ inr (resumed xp rl rr, ap (slice_get then) e ∙ at_top, (let q : x ≡ xp = same_Some x xp (sym at ∙ (ap (slice_get ts) e ∙ ip)) in let j = ap (λ (v : Task). v.joins) q in omega arith), λ c pc. all_joined c (pc ∙ ap Some e))
    | inr np ↦ inl (
      at_other u (λ e. both_ways (waits x.status) (ap (λ (v : Task). waits v.status) (same_Some x xl (sym at ∙ (ap (slice_get ts) e ∙ il))) ∙ wl) w)
          (λ e. both_ways (waits x.status) (ap (λ (v : Task). waits v.status) (same_Some x xr (sym at ∙ (ap (slice_get ts) e ∙ ir))) ∙ wr) w) np ∙ at,
      λ c pc j. live_then u c np pc j,
    )
  ]

  waits_before_join : (u : ℕ) → waiting then u ≡ true → (waiting ts u ≡ true) × (u ≡ p → ⊥)
  waits_before_join = four (λ u. waiting then u ≡ true → (waiting ts u ≡ true) × (u ≡ p → ⊥))
      (λ q. absurd (both_ways (waiting then p) (ap is_waiting at_top) q)) (λ q. absurd (both_ways (waiting then l) (ap is_waiting at_left) q)) (λ q. absurd (both_ways (waiting then (l + 1)) (ap is_waiting at_right) q))
      (λ u nl nr np q. (ap is_waiting (sym (at_other u nl nr np)) ∙ q, np))

  pub join_moves : TreeMoves ts (slice_set (slice_set (slice_set ts l (joined_task xl)) (l + 1) (joined_task xr)) p (resumed xp rl rr))
  join_moves = record {
    children = λ u c pc. parent_then c ∙ pc;
    stays = joined_then;
    goes = waits_then;
    live = λ f u q. let b = waits_before_join u q in let c = f u b.0 in (c.0, parent_then c.0 ∙ c.1, live_then u c.0 b.1 c.1 c.2);
  }

-- A STEP
pub step_moves : (p : ProgramText) (m : MachineState) (t : ℕ) → IsForkJoinState m → TreeMoves m.tasks (step p m t).tasks
step_moves p m t K =
    step_cases p m t K (λ m'. TreeMoves m.tasks m'.tasks) (tree_same m.tasks) (λ z e is r why. tree_same m.tasks)
    (λ z y store outs is r ep ed es ej names fields alters grows. let q = running_tells z.status r in set_moves m.tasks t z y is r ep (ap is_over es ∙ q.0) (ap waits es ∙ q.1))
    (λ z parent e is r pp which result. set_moves m.tasks t z (ended_task z (result_of z.top)) is r refl refl refl)
    (λ z g h is r next top. fork_moves m.tasks m.edges K.tree t g h z is r)
    (λ parent l xp xl xr rl rr ip il ir pl left dl dr wl wr nl nr side. join_moves m.tasks m.edges K.tree parent l xp xl xr rl rr ip il ir pl left dl dr wl wr)

-- A RUN: each waiting task has a child that hasn't joined
abbrev pub HaveLive : List Task → Type 0
HaveLive ts = (u : ℕ) → waiting ts u ≡ true → (c : ℕ) × (parents ts c ≡ Some u) × (joined ts c ≡ false)

live_from : (p : ProgramText) (us : List ℕ) (m : MachineState) → IsForkJoinState m → HaveLive m.tasks → HaveLive (run_from p m us).tasks
live_from p [] m K h = h
live_from p (t ∷ us) m K h = live_from p us (step p m t) (step_is_fork_join_state p m t K) ((step_moves p m t K).live h)

pub runs_have_live : (p : ProgramText) (limit : ℕ) (us : List ℕ) → HaveLive (run p limit us).tasks
runs_have_live p limit us = live_from p us (start p limit) (start_is_fork_join_state p limit) first
  where
    first : HaveLive (start p limit).tasks
    first zero w = absurd (false≢true w)
    first (suc u) w = absurd (false≢true w)
