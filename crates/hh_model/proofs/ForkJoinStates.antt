-- The first state is a fork-join state, and every step keeps the tree and the store.
use Rattle.hh_model.proofs.Common.{◌≡◌, ℕ, ℤ, zero, suc, ◌+◌, ◌-◌, ◌%◌, ◌<◌, ◌≤◌, Bool, true, false, cond, Option, Some, None, List, [], ◌∷◌, ◌++◌, length, slice_get, slice_set, nat_lt, inl, inr, refl, ap, sym, subst, ◌∙◌, arith, length-set, eq-eqb, both_ways, cond-true, cond-false, false≢true, eqb-false, got_within, same_view, Line, ProgramText, Name, Strand, Edge, Object, Frame, Waiting, Task, End, Trapped, Depth, MachineState, Effect, Goes, Prints, Calls, Forks, Returns, Traps, Stops, effect, object_at, row_of, onward, precedes, PathIsPrecedence, PathIsPrecedenceIn, waits, is_over, is_running, is_joined, parent_of, parents, joined, owner_of, is_on_path, path_in, owner_in, strand, strand_of, sibling, is_left, setting, follow, forked, child, child_ended_by, last_return, returned_to, goes_on, join_of, result_at, or_same, last_of, front_of, back_in, result_of, ended_by, depth_limit, frame_limit, ended_task, root, stepped, step, can_step, fetched, start, run_from, run, entry_frame}
use Rattle.hh_model.proofs.Walks.{decides_none, same_itself}
use Rattle.hh_model.proofs.Tree.{Known}
use Rattle.hh_model.proofs.Stores.{StandsAs, Keeps, effect_keeps}
use Rattle.hh_model.proofs.Runs.{waiting, joins_of, joins_in, TreeOf, same_tree, running_tells, ended_tells, grown_length, grown_view, fork_tree, join_tree, join_joins, join_length}
pub use Rattle.hh_model.specs.Tree.{StoreOf, IsForkJoinStateIn, IsForkJoinState}

store_wider : (n n' : ℕ) (js js' : ℕ → ℕ) (store : List (List Object)) → n ≤ n' → ((u : ℕ) → js u ≤ js' u) → StoreOf n js store → StoreOf n' js' store
store_wider n n' js js' store le more S m o e =
    let k = S m o e in
    let lt : o.strand.task < n = k.1.0 in
    let at : o.strand.joins ≤ js o.strand.task = k.1.1 in
    let up : js o.strand.task ≤ js' o.strand.task = more o.strand.task in
    (k.0, (omega arith, omega arith))

-- a task is written and keeps its position in the tree
written : (tasks : List Task) (edges : List Edge) (store : List (List Object)) (t : ℕ) (x y : Task) → slice_get tasks t ≡ Some x
    → y.parent ≡ x.parent → is_over y.status ≡ is_over x.status → waits y.status ≡ waits x.status → y.joins ≡ x.joins
    → IsForkJoinStateIn tasks edges store → IsForkJoinStateIn (slice_set tasks t y) edges store
written tasks edges store t x y is p d w j K = record {
  tree = same_tree tasks edges t x y is p d w j K.tree;
  store_of =
      store_wider (length tasks) (length (slice_set tasks t y)) (joins_in tasks) (joins_in (slice_set tasks t y)) store
      (omega (arith, length-set tasks t y))
      (λ u. let e : joins_in (slice_set tasks t y) u ≡ joins_in tasks u = ap (λ f. f u) (same_view joins_of tasks t x y is j) in omega arith)
      K.store_of;
}

-- the store after a step of a task
stored : (tasks : List Task) (edges : List Edge) (store store' : List (List Object)) (m : MachineState) (t : ℕ) (x : Task) → m.tasks ≡ tasks → slice_get tasks t ≡ Some x
    → StandsAs (setting m t x) store store' → IsForkJoinStateIn tasks edges store → IsForkJoinStateIn tasks edges store'
stored tasks edges store store' m t x em is stands K = record {
  tree = K.tree;
  store_of = λ n o e. elim (stands n o e) [
    | inl old ↦
        let k = K.store_of n old.0 old.1 in
        (ap (λ (s : Strand). s.task) (sym old.2) ∙ k.0, subst (λ s. Known (length tasks) (joins_in tasks) s) old.2 k.1)
    | inr new ↦ (
      ap (λ (s : Strand). s.task) new.1 ∙ sym new.0,
      subst (λ s. Known (length tasks) (joins_in tasks) s) (sym new.1) (got_within tasks t x is, (let j : joins_in tasks t ≡ x.joins = ap joins_of is in omega arith)),
    )
  ];
}

-- two empty rows have no objects
pub empty_rows : (rows : List (List Object)) (k c : ℕ) (o : Object) → slice_get (row_of (slice_get (rows ++ [] ∷ [] ∷ []) k)) c ≡ Some o → slice_get (row_of (slice_get rows k)) c ≡ Some o
empty_rows [] zero c o e = absurd cc
empty_rows [] (suc zero) c o e = absurd cc
empty_rows [] (suc (suc k)) c o e = absurd cc
empty_rows (row ∷ rows) zero c o e = e
empty_rows (row ∷ rows) (suc k) c o e = empty_rows rows k c o e

either_is_fork_join_state : (b : Bool) (m m' : MachineState) → IsForkJoinState m → IsForkJoinState m' → IsForkJoinState (cond b m m')
either_is_fork_join_state true m m' k k' = k
either_is_fork_join_state false m m' k k' = k'

or_same_is_fork_join_state : {A : Type 0} (m : MachineState) (o : Option A) (go : A → MachineState) → IsForkJoinState m → ((x : A) → o ≡ Some x → IsForkJoinState (go x)) → IsForkJoinState (or_same m o go)
or_same_is_fork_join_state m None go k each = k
or_same_is_fork_join_state m (Some x) go k each = each x refl

module _ (m : MachineState) (t : ℕ) (x : Task) (is : slice_get m.tasks t ≡ Some x) (run : is_running (Some x) ≡ true) (K : IsForkJoinState m) where
  abbrev tells : (is_over x.status ≡ false) × (waits x.status ≡ false)
  tells = running_tells x.status run

  abbrev y : Task
  y = record x { status = Waiting; top = onward x.top }

  abbrev all : ℕ → ℕ → List Task
  all g h = slice_set m.tasks t y ++ child t (x.depth + 1) g x.top ∷ child t (x.depth + 1) h x.top ∷ []

  forked_is_fork_join_state : (g h line : ℕ) → IsForkJoinState (forked m t x g h line)
  forked_is_fork_join_state g h line = either_is_fork_join_state (nat_lt x.depth depth_limit) _ (ended_by m (Trapped Depth t line)) (record {
    tree = fork_tree m.tasks m.edges t x (onward x.top) x.top x.top g h is run K.tree;
    store_of =
        store_wider (length m.tasks) (length (all g h)) (joins_in m.tasks) (joins_in (all g h)) (m.store ++ [] ∷ [] ∷ [])
        (omega (arith, grown_length m.tasks t x y (child t (x.depth + 1) g x.top) (child t (x.depth + 1) h x.top) is))
        (λ u. let e : joins_in (all g h) u ≡ joins_in m.tasks u = grown_view m.tasks t x y (child t (x.depth + 1) g x.top) (child t (x.depth + 1) h x.top) is joins_of refl refl refl u in omega arith)
        (λ n o e. K.store_of n o (empty_rows m.store n.task n.count o e));
  }) K

  join_is_fork_join_state : (p l : ℕ) (xp xl xr : Task) (rl rr : ℤ × Option Name)
      → slice_get m.tasks p ≡ Some xp → slice_get m.tasks l ≡ Some xl → slice_get m.tasks (l + 1) ≡ Some xr
      → xl.parent ≡ Some p → is_left l ≡ true → is_over xl.status ≡ false → is_over xr.status ≡ false → waits xl.status ≡ false → waits xr.status ≡ false
      → IsForkJoinState (join_of m p xp l xl xr rl rr)
  join_is_fork_join_state p l xp xl xr rl rr ip il ir pl left dl dr wl wr = record {
    tree = join_tree m.tasks m.edges l p xl xr xp rl rr il ir ip pl left dl dr wl wr K.tree;
    store_of =
        store_wider (length m.tasks) (length (join_of m p xp l xl xr rl rr).tasks) (joins_in m.tasks) (joins_in (join_of m p xp l xl xr rl rr).tasks) m.store
        (omega (arith, join_length m.tasks m.edges l p xl xr xp rl rr il ir ip pl left dl dr wl wr K.tree))
        (join_joins m.tasks m.edges l p xl xr xp rl rr il ir ip pl left dl dr wl wr K.tree)
        K.store_of;
  }

  sides : (p : ℕ) (xp z : Task) (result other : ℤ × Option Name) → slice_get m.tasks p ≡ Some xp → slice_get m.tasks (sibling t) ≡ Some z → x.parent ≡ Some p → (is_over z.status ≡ false) × (waits z.status ≡ false)
      → (b : Bool) → is_left t ≡ b → IsForkJoinState (cond b (join_of m p xp t x z result other) (join_of m p xp (t - 1) z x other result))
  sides p xp z result other ip iz pp over true side =
      let sib : sibling t ≡ t + 1 = cond-true (is_left t) (t + 1) (t - 1) side in
      join_is_fork_join_state p t xp x z result other ip is (ap (slice_get m.tasks) (sym sib) ∙ iz) pp side tells.0 over.0 tells.1 over.1
  sides p xp z result other ip iz pp over false side =
      let sib : sibling t ≡ t - 1 = cond-false (is_left t) (t + 1) (t - 1) side in
      let par : parents m.tasks t ≡ Some p = ap parent_of is ∙ pp in
      let lt : p < t = K.tree.low t p par in
      let back : t - 1 + 1 ≡ t = omega arith in
      let even : t % 2 ≡ 1 → ⊥ = eqb-false (t % 2) 1 side in
      let odd : (t - 1) % 2 ≡ 1 = omega arith in
      join_is_fork_join_state p (t - 1) xp z x other result ip (ap (slice_get m.tasks) (sym sib) ∙ iz) (ap (slice_get m.tasks) back ∙ is)
      (ap parent_of (sym iz) ∙ K.tree.pairs t p par) (eq-eqb ((t - 1) % 2) 1 odd) over.0 tells.0 over.1 tells.1

  child_ended_is_fork_join_state : (p : ℕ) (result : ℤ × Option Name) (o : Option (ℤ × Option Name)) → x.parent ≡ Some p → result_at (slice_get m.tasks (sibling t)) ≡ o → IsForkJoinState (child_ended_by m t x p result o)
  child_ended_is_fork_join_state p result None pp k = written m.tasks m.edges m.store t x (ended_task x result) is refl (sym tells.0) (sym tells.1) refl K
  child_ended_is_fork_join_state p result (Some other) pp k =
      or_same_is_fork_join_state m (slice_get m.tasks p) _ K (λ parent ip. or_same_is_fork_join_state m (slice_get m.tasks (sibling t)) _ K (λ z iz.
      sides p parent z result other ip iz pp (ended_tells z.status other (ap result_at (sym iz) ∙ k)) (is_left t) refl))

  last_return_is_fork_join_state : (o : Option ℕ) → x.parent ≡ o → IsForkJoinState (last_return m t x o)
  last_return_is_fork_join_state None e = written m.tasks m.edges m.store t x (ended_task x (result_of x.top)) is refl (sym tells.0) (sym tells.1) refl K
  last_return_is_fork_join_state (Some p) e = child_ended_is_fork_join_state p (result_of x.top) (result_at (slice_get m.tasks (sibling t))) e refl

  returned_to_is_fork_join_state : (o : Option Frame) → IsForkJoinState (returned_to m t x o)
  returned_to_is_fork_join_state None = last_return_is_fork_join_state x.parent refl
  returned_to_is_fork_join_state (Some f) = written m.tasks m.edges m.store t x (record x { top = back_in f x.top; below = front_of x.below }) is refl refl refl refl K

  follow_is_fork_join_state : (line : ℕ) (e : Effect) → Keeps (setting m t x) m.store e → IsForkJoinState (follow m t x line e)
  follow_is_fork_join_state line (Goes f store) keeps = written m.tasks m.edges store t x (record x { top = f }) is refl refl refl refl (stored m.tasks m.edges m.store store m t x refl is keeps K)
  follow_is_fork_join_state line (Prints k) keeps = written m.tasks m.edges m.store t x (record x { top = onward x.top }) is refl refl refl refl K
  follow_is_fork_join_state line (Calls g) keeps =
      either_is_fork_join_state (nat_lt (length x.below + 1) frame_limit) _ (ended_by m (Trapped Depth t line))
      (written m.tasks m.edges m.store t x (record x { top = entry_frame g x.top; below = x.below ++ onward x.top ∷ [] }) is refl refl refl refl K) K
  follow_is_fork_join_state line (Forks g h) keeps = forked_is_fork_join_state g h line
  follow_is_fork_join_state line Returns keeps = returned_to_is_fork_join_state (last_of x.below)
  follow_is_fork_join_state line (Traps kind) keeps = K
  follow_is_fork_join_state line (Stops n) keeps = K

  stepped_is_fork_join_state : (p : ProgramText) (o : Option Line) → IsForkJoinState (stepped p m t x o)
  stepped_is_fork_join_state p None = K
  stepped_is_fork_join_state p (Some line) = follow_is_fork_join_state line.number (effect (setting m t x) x.top m.store line.instr) (effect_keeps (setting m t x) m.store x.top line.instr)

step_by : (p : ProgramText) (m : MachineState) (t : ℕ) → IsForkJoinState m → (b : Bool) → can_step m t ≡ b → IsForkJoinState (cond b (or_same m (slice_get m.tasks t) (λ x. stepped p m t x (fetched p x.top))) m)
step_by p m t K false e = K
step_by p m t K true e = or_same_is_fork_join_state m (slice_get m.tasks t) _ K (λ x is. stepped_is_fork_join_state m t x is (ap is_running (sym is) ∙ running m.end e) K p (fetched p x.top))
  where
    running : (o : Option End) → goes_on o (is_running (slice_get m.tasks t)) ≡ true → is_running (slice_get m.tasks t) ≡ true
    running None h = h
    running (Some z) h = absurd (false≢true h)

pub step_is_fork_join_state : (p : ProgramText) (m : MachineState) (t : ℕ) → IsForkJoinState m → IsForkJoinState (step p m t)
step_is_fork_join_state p m t K = step_by p m t K (can_step m t) refl

pub run_is_fork_join_state : (p : ProgramText) (m : MachineState) (ts : List ℕ) → IsForkJoinState m → IsForkJoinState (run_from p m ts)
run_is_fork_join_state p m [] K = K
run_is_fork_join_state p m (t ∷ ts) K = run_is_fork_join_state p (step p m t) ts (step_is_fork_join_state p m t K)

module _ (x : Task) (none : x.parent ≡ None) (run : is_over x.status ≡ false) (idle : waits x.status ≡ false) (zero_joins : x.joins ≡ 0) where
  orphan : (t p : ℕ) → parents (x ∷ []) t ≡ Some p → ⊥
  orphan zero p e = absurd cc
  orphan (suc t) p e = absurd cc

  idle_all : (t : ℕ) → waiting (x ∷ []) t ≡ true → joined (x ∷ []) t ≡ false
  idle_all zero e = absurd (both_ways (waits x.status) idle e)
  idle_all (suc t) e = refl

  live_all : (t : ℕ) → joined (x ∷ []) t ≡ false
  live_all zero = run
  live_all (suc t) = refl

  alone : (a i t : ℕ) → a < 1 → i ≤ joins_in (x ∷ []) a → t < 1 → joined (x ∷ []) t ≡ false
      → precedes [] (strand a i) (strand t (joins_in (x ∷ []) t)) ≡ path_in (parents (x ∷ [])) (owner_in (parents (x ∷ [])) (joined (x ∷ [])) a) t
  alone zero i zero la li lt live =
      let i0 : i ≡ x.joins = omega arith in
      ap (λ k. precedes [] (strand 0 k) (strand 0 x.joins)) i0 ∙ same_itself (strand 0 x.joins)
  alone zero i (suc t) la li lt live = absurd (omega arith)
  alone (suc a) i t la li lt live = absurd (omega arith)

  pub root_tree : TreeOf (x ∷ []) []
  root_tree = record {
    low = λ t p e. absurd (orphan t p e);
    made = λ t p e. absurd (orphan t p e);
    odd = refl;
    pairs = λ t p e. absurd (orphan t p e);
    waits = λ t p e. absurd (orphan t p e);
    brothers = λ t u p e. absurd (orphan t p e);
    apart = idle_all;
    rooted = λ t h. absurd (both_ways (joined (x ∷ []) t) (live_all t) h);
    known = λ e i. absurd i;
    right = decides_none;
    path = alone;
  }

pub no_objects : (k c : ℕ) (o : Object) → slice_get (row_of (slice_get ([] ∷ []) k)) c ≡ Some o → ⊥
no_objects zero c o e = absurd cc
no_objects (suc k) c o e = absurd cc

pub start_is_fork_join_state : (p : ProgramText) (limit : ℕ) → IsForkJoinState (start p limit)
start_is_fork_join_state p limit = record {
  tree = root_tree (root p) refl refl refl refl;
  store_of = λ n o e. absurd (no_objects n.task n.count o e);
}

-- the test of happens before agrees with the path
pub seen : (m : MachineState) → IsForkJoinState m → (t : ℕ) (x : Task) (n : Name) (o : Object) → slice_get m.tasks t ≡ Some x → is_running (Some x) ≡ true → object_at m.store n ≡ Some o
    → precedes m.edges o.strand (strand_of t x) ≡ is_on_path m.tasks (owner_of m.tasks n.task) t
seen m K t x n o is run e =
    let k = K.store_of n o e in
    let I = K.tree in
    let live : joined m.tasks t ≡ false = ap is_joined is ∙ (running_tells x.status run).0 in
    ap (λ j. precedes m.edges o.strand (strand t j)) (sym (ap joins_of is))
    ∙ (I.path o.strand.task o.strand.joins t k.1.0 k.1.1 (got_within m.tasks t x is) live
    ∙ ap (λ a. is_on_path m.tasks (owner_of m.tasks a) t) k.0)

pub path_is_precedence_in : (m : MachineState) → IsForkJoinState m → PathIsPrecedenceIn m
path_is_precedence_in m K t x n o is run e =
    let I = K.tree in
    let at = seen m K t x n o is run e in (
      ((λ h. (I.right o.strand (strand_of t x)).0 (at ∙ h)), (λ w. sym at ∙ (I.right o.strand (strand_of t x)).1 w)),
      ((λ h. at ∙ h), (λ h. sym at ∙ h)),
    )

pub path_is_precedence : PathIsPrecedence
path_is_precedence p limit ts = path_is_precedence_in (run p limit ts) (run_is_fork_join_state p (start p limit) ts (start_is_fork_join_state p limit))
