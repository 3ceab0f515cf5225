-- Only the first task has no parent, and it is an ancestor of all others.
use Rattle.hh_model.proofs.Common.{◌≡◌, ℕ, ℤ, zero, suc, ◌+◌, ◌<◌, ◌≤◌, ◌==◌, arith, true, false, Option, Some, None, List, [], ◌∷◌, ◌++◌, length, slice_get, slice_set, inl, inr, refl, ap, sym, subst, ◌∙◌, cases_eq, both_ways, false≢true, or_right, same_Some, got_same, got_other, got_within, got_some, some_none, ProgramText, Name, Waiting, Task, MachineState, onward, step, run, run_from, start, parents, joined, parent_of, path_in, is_on_path, is_running, is_waiting, is_joined, child, ended_task, result_of, joined_task, resumed, IsForkJoinState, HasOneRoot, RunsHaveOneRoot, waiting, joins_in}
use Rattle.hh_model.proofs.Closed.{grown_cases}
use Rattle.hh_model.proofs.ForkJoinStates.{step_is_fork_join_state, start_is_fork_join_state, run_is_fork_join_state}
use Rattle.hh_model.proofs.Paths.{path_child, path_itself}
use Rattle.hh_model.proofs.Runs.{running_tells}
use Rattle.hh_model.proofs.Tree.{not_above}
use Rattle.hh_model.proofs.Steps.{step_cases}

-- a task without a parent is the first
abbrev pub OneRoot : List Task → Type 0
OneRoot tasks = (u : ℕ) (x : Task) → slice_get tasks u ≡ Some x → x.parent ≡ None → u ≡ 0

written : (tasks : List Task) (t : ℕ) (x y : Task) → slice_get tasks t ≡ Some x → y.parent ≡ x.parent → OneRoot tasks → OneRoot (slice_set tasks t y)
written tasks t x y is same R u z at none = elim (cases_eq u t) [
  | inl e ↦
      let q : y ≡ z = same_Some y z (sym (got_same tasks t x y is) ∙ (ap (slice_get (slice_set tasks t y)) (sym e) ∙ at)) in
      e ∙ R t x is (sym same ∙ (ap (λ (k : Task). k.parent) q ∙ none))
  | inr ne ↦ R u z (sym (got_other tasks t u y ne) ∙ at) none
]

module _ (p : ProgramText) (m : MachineState) (t : ℕ) (K : IsForkJoinState m) (R : OneRoot m.tasks) where
  forked : (x : Task) (g h : ℕ) → slice_get m.tasks t ≡ Some x → OneRoot (slice_set m.tasks t (record x { status = Waiting; top = onward x.top }) ++ child t (x.depth + 1) g x.top ∷ child t (x.depth + 1) h x.top ∷ [])
  forked x g h is u z at none = elim (grown_cases (slice_set m.tasks t (record x { status = Waiting; top = onward x.top })) (child t (x.depth + 1) g x.top) (child t (x.depth + 1) h x.top) u z at) [
    | inl old ↦ written m.tasks t x (record x { status = Waiting; top = onward x.top }) is refl R u z old none
    | inr new ↦ elim new [
      | inl c ↦ some_none (ap (λ (k : Task). k.parent) (sym c.1) ∙ none)
      | inr c ↦ some_none (ap (λ (k : Task). k.parent) (sym c.1) ∙ none)
    ]
  ]

  joins : (o c : ℕ) (xp xl xr : Task) (rl rr : ℤ × Option Name) → slice_get m.tasks o ≡ Some xp → slice_get m.tasks c ≡ Some xl → slice_get m.tasks (c + 1) ≡ Some xr → xl.parent ≡ Some o
      → OneRoot (slice_set (slice_set (slice_set m.tasks c (joined_task xl)) (c + 1) (joined_task xr)) o (resumed xp rl rr))
  joins o c xp xl xr rl rr ip il ir pl =
      let lt : o < c = K.tree.low c o (ap parent_of il ∙ pl) in
      let first = written m.tasks c xl (joined_task xl) il refl R in
      let ir' : slice_get (slice_set m.tasks c (joined_task xl)) (c + 1) ≡ Some xr = got_other m.tasks c (c + 1) (joined_task xl) (λ e. omega (arith, e)) ∙ ir in
      let second = written (slice_set m.tasks c (joined_task xl)) (c + 1) xr (joined_task xr) ir' refl first in
      let ip' : slice_get (slice_set (slice_set m.tasks c (joined_task xl)) (c + 1) (joined_task xr)) o ≡ Some xp =
      got_other (slice_set m.tasks c (joined_task xl)) (c + 1) o (joined_task xr) (λ e. omega (arith, e, lt)) ∙ (got_other m.tasks c o (joined_task xl) (λ e. omega (arith, e, lt)) ∙ ip) in
      written (slice_set (slice_set m.tasks c (joined_task xl)) (c + 1) (joined_task xr)) o xp (resumed xp rl rr) ip' refl second

  root_step : OneRoot (step p m t).tasks
  root_step =
      step_cases p m t K (λ k. OneRoot k.tasks) R (λ x e is run h. R)
      (λ x y store outs is run same a b c d e f g. written m.tasks t x y is same R)
      (λ x o e is run a b c. written m.tasks t x (ended_task x (result_of x.top)) is refl R)
      (λ x g h is run a b. forked x g h is)
      (λ o c xp xl xr rl rr ip il ir pl a b d e f g h i. joins o c xp xl xr rl rr ip il ir pl)

root_from : (p : ProgramText) (ts : List ℕ) (m : MachineState) → IsForkJoinState m → OneRoot m.tasks → OneRoot (run_from p m ts).tasks
root_from p [] m K R = R
root_from p (t ∷ ts) m K R = root_from p ts (step p m t) (step_is_fork_join_state p m t K) (root_step p m t K R)

pub run_root : (p : ProgramText) (limit : ℕ) (ts : List ℕ) → OneRoot (run p limit ts).tasks
run_root p limit ts = root_from p ts (start p limit) (start_is_fork_join_state p limit) first
  where
    first : OneRoot (start p limit).tasks
    first zero x e none = refl
    first (suc u) x e none = absurd cc

pub runs_tell : (o : Option Task) → is_running o ≡ true → (x : Task) × (o ≡ Some x) × (is_joined o ≡ false) × (is_waiting o ≡ false)
runs_tell None h = absurd (false≢true h)
runs_tell (Some x) h = let r = running_tells x.status h in (x, refl, r.0, r.1)

module _ (m : MachineState) (K : IsForkJoinState m) (R : OneRoot m.tasks) where
  above_by : (k u : ℕ) → ((p : ℕ) → p < u → p < length m.tasks → is_on_path m.tasks 0 p ≡ true) → (x : Task) → slice_get m.tasks u ≡ Some x → (o : Option ℕ) → x.parent ≡ o → is_on_path m.tasks 0 u ≡ true
  above_by k u up x is None e = subst (λ z. is_on_path m.tasks 0 z ≡ true) (sym (R u x is e)) (path_itself (parents m.tasks) K.tree.low 0)
  above_by k u up x is (Some p) e =
      let par : parents m.tasks u ≡ Some p = ap parent_of is ∙ e in
      let lt : p < u = K.tree.low u p par in
      let within : u < length m.tasks = got_within m.tasks u x is in
      path_child (parents m.tasks) K.tree.low 0 u p par ∙ or_right (0 == u) (path_in (parents m.tasks) 0 p) (up p lt (omega (arith, lt, within)))

  above_all : (k u : ℕ) → u ≤ k → u < length m.tasks → is_on_path m.tasks 0 u ≡ true
  above_all zero u le lt = let x = got_some m.tasks u lt in above_by zero u (λ p l w. absurd (omega (arith, l, le))) x.0 x.1 x.0.parent refl
  above_all (suc k) u le lt = let x = got_some m.tasks u lt in above_by k u (λ p l w. above_all k p (omega (arith, l, le)) w) x.0 x.1 x.0.parent refl

  no_parent : (x : Task) → slice_get m.tasks 0 ≡ Some x → (o : Option ℕ) → x.parent ≡ o → x.parent ≡ None
  no_parent x is None e = e
  no_parent x is (Some p) e = let lt : p < 0 = K.tree.low 0 p (ap parent_of is ∙ e) in absurd (omega (arith, lt))

  alone : (t : ℕ) → is_running (slice_get m.tasks 0) ≡ true → is_running (slice_get m.tasks t) ≡ true → t ≡ 0
  alone t root runs = elim (cases_eq 0 t) [
    | inl e ↦ sym e
    | inr ne ↦
        let y = runs_tell (slice_get m.tasks t) runs in
        let r = runs_tell (slice_get m.tasks 0) root in
        absurd (both_ways (is_on_path m.tasks 0 t)
        (not_above (length m.tasks) (parents m.tasks) (joined m.tasks) (waiting m.tasks) (joins_in m.tasks) m.edges K.tree 0 t y.2 ne r.3)
        (above_all t t (omega arith) (got_within m.tasks t y.0 y.1)))
  ]

  pub one_root : HasOneRoot m.tasks
  one_root = record { only = R; none = λ x is. no_parent x is x.parent refl; above = λ t lt. above_all t t (omega arith) lt; alone = alone }

pub runs_have_one_root : RunsHaveOneRoot
runs_have_one_root p limit ts = one_root (run p limit ts) (run_is_fork_join_state p (start p limit) ts (start_is_fork_join_state p limit)) (run_root p limit ts)
