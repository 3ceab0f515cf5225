-- What a step leaves unchanged of the other running tasks.
use Rattle.path_laws.proofs.Common.{◌≡◌, ℕ, ℤ, zero, suc, ◌+◌, ◌<◌, Bool, true, false, Option, Some, None, List, [], ◌∷◌, ◌++◌, length, slice_get, slice_set, ◌⊎◌, inl, inr, refl, ap, sym, ◌∙◌, cases_eq, cases_lt, both_ways, false≢true, fun_ext, got_same, got_other, got_past, got_within, same_view, ProgramText, Name, Object, Waiting, Task, End, MachineState, object_at, onward, put_object, row_of, can_step, child, ended_task, goes_on, is_joined, is_left, is_on_path, is_over, is_running, is_waiting, joined, joined_task, owner_in, owner_of, parent_of, parents, result_of, resumed, run, runs, step, waits, grown_cases, three_cases, waits_is, owner_joins, owner_same, runs_tell, running_tells, grown_other, grown_view, grown_view_front, three_left, three_right, three_other, three_view, parl, parr, below, drest, wp, joiner_live, Alters, in_registers, names_run, runs_is, step_cases, not_above, owner_here, Disentangled, LeavesOwner, WaitsAlone}
use Rattle.hh_model.specs.Tree.{IsForkJoinState, waiting, joins_in}

-- OBJECTS

-- two new rows have no objects
pub rows_same : (store : List (List Object)) (k c : ℕ) → slice_get (row_of (slice_get (store ++ [] ∷ [] ∷ []) k)) c ≡ slice_get (row_of (slice_get store k)) c
rows_same [] zero c = refl
rows_same [] (suc zero) c = refl
rows_same [] (suc (suc k)) c = refl
rows_same (row ∷ store) zero c = refl
rows_same (row ∷ store) (suc k) c = rows_same store k c

-- putting an object into a row keeps the others of the row
row_same : (store : List (List Object)) (t k c : ℕ) (y : Object) → (c ≡ k → ⊥) → slice_get (row_of (slice_get (slice_set store t (slice_set (row_of (slice_get store t)) k y)) t)) c ≡ slice_get (row_of (slice_get store t)) c
row_same [] t k c y ne = refl
row_same (row ∷ store) zero k c y ne = got_other row k c y ne
row_same (row ∷ store) (suc t) k c y ne = row_same store t k c y ne

pub put_leaves : (store : List (List Object)) (k n : Name) (y : Object) → ((n.task ≡ k.task) × (n.count ≡ k.count) → ⊥) → object_at (put_object store k y) n ≡ object_at store n
put_leaves store k n y ne = elim (cases_eq n.task k.task) [
  | inl e ↦
      ap (λ j. slice_get (row_of (slice_get (put_object store k y) j)) n.count) e
      ∙ (row_same store k.task k.count n.count y (λ c. ne (e, c)) ∙ ap (λ j. slice_get (row_of (slice_get store j)) n.count) (sym e))
  | inr other ↦ ap (λ w. slice_get (row_of w) n.count) (got_other store k.task n.task (slice_set (row_of (slice_get store k.task)) k.count y) other)
]

-- what changes no task keeps all owners
pub same_owner : (m : MachineState) (u : ℕ) → LeavesOwner m m u
same_owner m u = record { task = refl; owned = λ a. ((λ q. q), (λ q. q)); objects = λ n own. refl }

-- owners after a fork
module _ (m : MachineState) (t : ℕ) (K : IsForkJoinState m) (x : Task) (g h : ℕ) (is : slice_get m.tasks t ≡ Some x) (run : is_running (Some x) ≡ true) where
  abbrev fy : Task
  fy = record x { status = Waiting; top = onward x.top }

  abbrev fl : Task
  fl = child t (x.depth + 1) g x.top

  abbrev fr : Task
  fr = child t (x.depth + 1) h x.top

  abbrev pub fork_tasks : List Task
  fork_tasks = slice_set m.tasks t fy ++ fl ∷ fr ∷ []

  joined_same : joined fork_tasks ≡ joined m.tasks
  joined_same = fun_ext (grown_view m.tasks t x fy fl fr is is_joined (sym (running_tells x.status run).0) refl refl)

  own_all : (a : ℕ) → owner_in (parents fork_tasks) (joined m.tasks) a ≡ owner_of m.tasks a
  own_all a = elim (cases_lt a (length m.tasks)) [
    | inl lt ↦ owner_same (parents m.tasks) (parents fork_tasks) K.tree.low (length m.tasks) (λ v lv. grown_view_front m.tasks t x fy fl fr is parent_of refl v lv) (joined m.tasks) a a lt
    | inr ge ↦
        let live : joined m.tasks a ≡ false = ap is_joined (got_past m.tasks a ge) in
        owner_here (parents fork_tasks) (joined m.tasks) a a live
        ∙ sym (owner_here (parents m.tasks) (joined m.tasks) a a live)
  ]

  pub fork_owner : (a : ℕ) → owner_of fork_tasks a ≡ owner_of m.tasks a
  fork_owner a = ap (λ f. owner_in (parents fork_tasks) f a) joined_same ∙ own_all a

module _ (p : ProgramText) (m : MachineState) (t : ℕ) (K : IsForkJoinState m) (D : Disentangled m.tasks m.store) (u : ℕ) (ne : u ≡ t → ⊥) (run_u : is_running (slice_get m.tasks u) ≡ true) where
  abbrev n : ℕ
  n = length m.tasks

  abbrev par : ℕ → Option ℕ
  par = parents m.tasks

  abbrev jd : ℕ → Bool
  jd = joined m.tasks

  idle_u : waiting m.tasks u ≡ false
  idle_u = (runs_tell (slice_get m.tasks u) run_u).3

  -- another running task is no descendant
  off_path : (x : Task) → slice_get m.tasks t ≡ Some x → is_running (Some x) ≡ true → is_on_path m.tasks u t ≡ false
  off_path x is run = not_above n par jd (waiting m.tasks) (joins_in m.tasks) m.edges K.tree u t (ap is_joined is ∙ (running_tells x.status run).0) ne idle_u

  own_t : (x : Task) → slice_get m.tasks t ≡ Some x → is_running (Some x) ≡ true → owner_of m.tasks t ≡ t
  own_t x is run = owner_here par jd t t (ap is_joined is ∙ (running_tells x.status run).0)

  abbrev Keeps : List (List Object) → Type 0
  Keeps store = (k : Name) → owner_of m.tasks k.task ≡ u → object_at store k ≡ object_at m.store k

  altered : (x : Task) (store : List (List Object)) → slice_get m.tasks t ≡ Some x → is_running (Some x) ≡ true → Alters p m t x store → Keeps store
  altered x store is run (inl e) k own = ap (λ w. object_at w k) e
  altered x store is run (inr (line, il, inl e)) k own = ap (λ w. object_at w k) e
  altered x store is run (inr (line, il, inr (inl a))) k own =
      let other : k.task ≡ t → ⊥ = λ e. ne (sym own ∙ (ap (owner_of m.tasks) e ∙ own_t x is run)) in
      ap (λ w. object_at w k) a.is ∙ ap (λ w. slice_get (row_of w) k.count) (got_other m.store t k.task (row_of (slice_get m.store t) ++ a.new ∷ []) other)
  altered x store is run (inr (line, il, inr (inr w))) k own =
      ap (λ s. object_at s k) w.is
      ∙ put_leaves m.store w.name k w.new (λ e.
      let held = D.of_task t x w.name is (names_run x w.name (runs_is x.status run) (in_registers (x.top ∷ x.below) x.top w.name (inl refl) w.held)) in
      let owns : owner_of m.tasks w.name.task ≡ u = ap (owner_of m.tasks) (sym e.0) ∙ own in
      both_ways (is_on_path m.tasks u t) (off_path x is run) (ap (λ a. is_on_path m.tasks a t) (sym owns) ∙ held.1))

  -- OWNERS

  abbrev Owns : List Task → Type 0
  Owns tasks = (a : ℕ) → (owner_of tasks a ≡ u → owner_of m.tasks a ≡ u) × (owner_of m.tasks a ≡ u → owner_of tasks a ≡ u)

  by_same : (tasks : List Task) → ((a : ℕ) → owner_of tasks a ≡ owner_of m.tasks a) → Owns tasks
  by_same tasks e a = ((λ q. sym (e a) ∙ q), (λ q. e a ∙ q))

  written : (x y : Task) → slice_get m.tasks t ≡ Some x → y.parent ≡ x.parent → is_over y.status ≡ is_over x.status → Owns (slice_set m.tasks t y)
  written x y is ep ed =
      by_same (slice_set m.tasks t y)
      (λ a. ap (λ f. owner_in f (joined (slice_set m.tasks t y)) a) (same_view parent_of m.tasks t x y is ep) ∙ ap (λ f. owner_in par f a) (same_view is_joined m.tasks t x y is ed))

  module _ (x : Task) (g h : ℕ) (is : slice_get m.tasks t ≡ Some x) (run : is_running (Some x) ≡ true) where
    abbrev y : Task
    y = record x { status = Waiting; top = onward x.top }

    abbrev cl : Task
    cl = child t (x.depth + 1) g x.top

    abbrev cr : Task
    cr = child t (x.depth + 1) h x.top

    abbrev all : List Task
    all = slice_set m.tasks t y ++ cl ∷ cr ∷ []

    forked : (store : List (List Object)) → store ≡ m.store ++ [] ∷ [] ∷ [] → (m' : MachineState) → m'.tasks ≡ all → m'.store ≡ store → LeavesOwner m m' u
    forked store es m' et es' = record {
      task = ap (λ ts. slice_get ts u) et ∙ grown_other m.tasks t x y cl cr is u (let z = runs_tell (slice_get m.tasks u) run_u in got_within m.tasks u z.0 z.1) ne;
      owned = by_same m'.tasks (λ a. ap (λ ts. owner_of ts a) et ∙ fork_owner m t K x g h is run a);
      objects = λ k own. ap (λ w. object_at w k) (es' ∙ es) ∙ rows_same m.store k.task k.count;
    }

  module _ (parent l : ℕ) (xp xl xr : Task) (rl rr : ℤ × Option Name) (ip : slice_get m.tasks parent ≡ Some xp) (il : slice_get m.tasks l ≡ Some xl) (ir : slice_get m.tasks (l + 1) ≡ Some xr)
      (pl : xl.parent ≡ Some parent) (left : is_left l ≡ true) (dl : is_over xl.status ≡ false) (dr : is_over xr.status ≡ false) (wl : waits xl.status ≡ false) (wr : waits xr.status ≡ false)
      (side : ((t ≡ l) × (is_left t ≡ true) × (runs xl.status ≡ true) × (runs xr.status ≡ false)) ⊎ ((t ≡ l + 1) × (is_left t ≡ false) × (runs xr.status ≡ true) × (runs xl.status ≡ false))) where
    abbrev after : List Task
    after = slice_set (slice_set (slice_set m.tasks l (joined_task xl)) (l + 1) (joined_task xr)) parent (resumed xp rl rr)

    under : parent < l
    under = below m.tasks m.edges l parent xl xr xp rl rr il ir ip pl left dl dr wl wr K.tree

    rest : (v : ℕ) → (v ≡ l → ⊥) → (v ≡ l + 1 → ⊥) → joined after v ≡ joined m.tasks v
    rest = drest m.tasks m.edges l parent xl xr xp rl rr il ir ip pl left dl dr wl wr K.tree

    live_p : joined after parent ≡ false
    live_p = joiner_live m.tasks m.edges l parent xl xr xp rl rr il ir ip pl left dl dr wl wr K.tree

    own_after : (a : ℕ) → owner_of after a ≡ owner_in par (joined after) a
    own_after a = ap (λ f. owner_in f (joined after) a) (fun_ext (three_view m.tasks l parent xl xr xp (joined_task xl) (joined_task xr) (resumed xp rl rr) il ir ip under parent_of refl refl refl))

    not_p : u ≡ parent → ⊥
    not_p e = both_ways (waiting m.tasks u) idle_u (ap (waiting m.tasks) e ∙ wp m.tasks m.edges l parent xl xr xp rl rr il ir ip pl left dl dr wl wr K.tree)

    not_l : u ≡ l → ⊥
    not_l e = elim side [
      | inl q ↦ ne (e ∙ sym q.0)
      | inr q ↦ both_ways (runs xl.status) q.3 (sym (ap is_running (ap (slice_get m.tasks) e ∙ il)) ∙ run_u)
    ]

    not_r : u ≡ l + 1 → ⊥
    not_r e = elim side [
      | inl q ↦ both_ways (runs xr.status) q.3 (sym (ap is_running (ap (slice_get m.tasks) e ∙ ir)) ∙ run_u)
      | inr q ↦ ne (e ∙ sym q.0)
    ]

    owns : Owns after
    owns a =
        elim (owner_joins par K.tree.low jd (joined after) l (l + 1) parent
        (parl m.tasks m.edges l parent xl xr xp rl rr il ir ip pl left dl dr wl wr K.tree) (parr m.tasks m.edges l parent xl xr xp rl rr il ir ip pl left dl dr wl wr K.tree)
        (ap is_joined il ∙ dl) (ap is_joined ir ∙ dr) live_p
        (ap is_joined (three_left m.tasks l parent xl xr xp (joined_task xl) (joined_task xr) (resumed xp rl rr) il ir ip under))
        (ap is_joined (three_right m.tasks l parent xl xr xp (joined_task xl) (joined_task xr) (resumed xp rl rr) il ir ip under)) rest a) [
          | inl k ↦ (
            (λ q. absurd (not_p (sym q ∙ (own_after a ∙ k.0)))),
            (λ q. absurd (elim (k.1) [ inl e ↦ not_l (sym q ∙ e) | inr e ↦ not_r (sym q ∙ e) ])),
          )
          | inr k ↦ ((λ q. sym (own_after a ∙ k.0) ∙ q), (λ q. (own_after a ∙ k.0) ∙ q))
        ]

    joins : (m' : MachineState) → m'.tasks ≡ after → m'.store ≡ m.store → LeavesOwner m m' u
    joins m' et es = record {
      task = ap (λ ts. slice_get ts u) et ∙ three_other m.tasks l parent xl xr xp (joined_task xl) (joined_task xr) (resumed xp rl rr) il ir ip under u not_l not_r not_p;
      owned = λ a. (let o = owns a in let e : owner_of m'.tasks a ≡ owner_of after a = ap (λ ts. owner_of ts a) et in ((λ q. o.0 (sym e ∙ q)), (λ q. e ∙ o.1 q)));
      objects = λ k own. ap (λ w. object_at w k) es;
    }

  pub leaves_owner : LeavesOwner m (step p m t) u
  leaves_owner =
      step_cases p m t K (λ m'. LeavesOwner m m' u) (same_owner m u) (λ x e is run why. record { task = refl; owned = by_same m.tasks (λ a. refl); objects = λ k own. refl })
      (λ x y store outs is run ep ed es ej names fields alters grows. record {
        task = got_other m.tasks t u y ne;
        owned = written x y is ep (ap is_over es);
        objects = altered x store is run alters;
      })
      (λ x parent e is run pp which result. record {
        task = got_other m.tasks t u (ended_task x (result_of x.top)) ne;
        owned = written x (ended_task x (result_of x.top)) is refl (sym (running_tells x.status run).0);
        objects = λ k own. refl;
      })
      (λ x g h is run next top. forked x g h is run (m.store ++ [] ∷ [] ∷ []) refl _ refl refl)
      (λ parent l xp xl xr rl rr ip il ir pl left dl dr wl wr nl nr side. joins parent l xp xl xr rl rr ip il ir pl left dl dr wl wr side _ refl refl)

-- WAITING

pub wait_task : (o : Option Task) → is_waiting o ≡ true → (x : Task) × (o ≡ Some x) × (waits x.status ≡ true)
wait_task None h = absurd (false≢true h)
wait_task (Some x) h = (x, refl, h)

pub waiting_stops : (o : Option Task) → is_waiting o ≡ true → is_running o ≡ false
waiting_stops None e = refl
waiting_stops (Some x) e = ap runs (waits_is x.status e)

pub wait_there : (o : Option Task) → is_waiting o ≡ true → (x : Task) × (o ≡ Some x)
wait_there o h = let w = wait_task o h in (w.0, w.1)

pub goes_tells : (o : Option End) (b : Bool) → goes_on o b ≡ true → o ≡ None
goes_tells None b h = refl
goes_tells (Some e) b h = absurd (false≢true h)

pub can_going : (m : MachineState) (t : ℕ) → can_step m t ≡ true → m.end ≡ None
can_going m t can = goes_tells m.end (is_running (slice_get m.tasks t)) can

module _ (p : ProgramText) (m : MachineState) (t : ℕ) (K : IsForkJoinState m) where
  module _ (u : ℕ) (ne : u ≡ t → ⊥) where
    abbrev Waited : List Task → Type 0
    Waited tasks = waiting tasks u ≡ true → waiting m.tasks u ≡ true

    wrote : (y : Task) → Waited (slice_set m.tasks t y)
    wrote y w = ap is_waiting (sym (got_other m.tasks t u y ne)) ∙ w

    grew : (y c d : Task) → waits c.status ≡ false → waits d.status ≡ false → Waited (slice_set m.tasks t y ++ c ∷ d ∷ [])
    grew y c d nc nd w =
        let z = wait_task (slice_get (slice_set m.tasks t y ++ c ∷ d ∷ []) u) w in
        elim (grown_cases (slice_set m.tasks t y) c d u z.0 z.1) [
          | inl old ↦ wrote y (ap is_waiting old ∙ z.2)
          | inr new ↦ elim new [
            | inl e ↦ absurd (both_ways (waits c.status) nc (ap (λ (k : Task). waits k.status) (sym e.1) ∙ z.2))
            | inr e ↦ absurd (both_ways (waits d.status) nd (ap (λ (k : Task). waits k.status) (sym e.1) ∙ z.2))
          ]
        ]

    joined_up : (parent l : ℕ) (yp yl yr : Task) → waits yp.status ≡ false → waits yl.status ≡ false → waits yr.status ≡ false → Waited (slice_set (slice_set (slice_set m.tasks l yl) (l + 1) yr) parent yp)
    joined_up parent l yp yl yr np nl nr w =
        let z = wait_task (slice_get (slice_set (slice_set (slice_set m.tasks l yl) (l + 1) yr) parent yp) u) w in
        elim (three_cases m.tasks l parent yl yr yp u z.0 z.1) [
          | inl top ↦ absurd (both_ways (waits yp.status) np (ap (λ (k : Task). waits k.status) (sym top.1) ∙ z.2))
          | inr more ↦ elim more [
            | inl a ↦ absurd (both_ways (waits yr.status) nr (ap (λ (k : Task). waits k.status) (sym a) ∙ z.2))
            | inr rest ↦ elim rest [
              | inl a ↦ absurd (both_ways (waits yl.status) nl (ap (λ (k : Task). waits k.status) (sym a) ∙ z.2))
              | inr old ↦ ap is_waiting old ∙ z.2
            ]
          ]
        ]

    waited : Waited (step p m t).tasks
    waited =
        step_cases p m t K (λ m'. Waited m'.tasks) (λ w. w) (λ x e is run why w. w)
        (λ x y store outs is run ep ed es ej names fields alters grows. wrote y)
        (λ x parent e is run pp which result. wrote (ended_task x (result_of x.top)))
        (λ x g h is run next top. grew (record x { status = Waiting; top = onward x.top }) (child t (x.depth + 1) g x.top) (child t (x.depth + 1) h x.top) refl refl)
        (λ parent l xp xl xr rl rr ip il ir pl left dl dr wl wr nl nr side. joined_up parent l (resumed xp rl rr) (joined_task xl) (joined_task xr) refl refl refl)

  waits_on : can_step m t ≡ true → waiting (step p m t).tasks t ≡ true → (step p m t).end ≡ None
  waits_on can =
      let going : m.end ≡ None = goes_tells m.end (is_running (slice_get m.tasks t)) can in
      step_cases p m t K (λ m'. waiting m'.tasks t ≡ true → m'.end ≡ None) (λ w. going)
      (λ x e is run why w. absurd (both_ways (waits x.status) (running_tells x.status run).1 (ap is_waiting (sym is) ∙ w)))
      (λ x y store outs is run ep ed es ej names fields alters grows w. going)
      (λ x parent e is run pp which result w. absurd (false≢true (ap is_waiting (sym (got_same m.tasks t x (ended_task x (result_of x.top)) is)) ∙ w)))
      (λ x g h is run next top w. going)
      (λ parent l xp xl xr rl rr ip il ir pl left dl dr wl wr nl nr side w. going)

  pub waits_alone : WaitsAlone p m t
  waits_alone = record { others = λ u ne. waited u ne; own = waits_on }
