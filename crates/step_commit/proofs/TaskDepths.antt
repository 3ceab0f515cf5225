-- Depths of tasks: a task has as many forks above it as links lead from it to the root.
use Rattle.step_commit.proofs.Common.{◌≡◌, ℕ, zero, suc, ◌+◌, ◌<◌, ◌≤◌, arith, Option, Some, None, List, [], ◌∷◌, length, slice_get, inl, inr, refl, ap, sym, ◌∙◌, cases_eq, cases_lt, same_Some, fun_ext, got_within, some_none, got_some, ProgramText, MachineState, Task, parent_of, parents, run, run_from, start, step, MakesChildren, TasksStay, AreLow, IsForkJoinState, start_is_fork_join_state, step_is_fork_join_state, numbered, depth_by, depth_in, through}

-- a task without a parent has none above it, and a child has one more than its parent
pub record AreDeep (tasks : List Task) : Type 0 where
  pub root : (u : ℕ) (x : Task) → slice_get tasks u ≡ Some x → x.parent ≡ None → x.depth ≡ 0
  pub child : (u q : ℕ) (x y : Task) → slice_get tasks u ≡ Some x → x.parent ≡ Some q → slice_get tasks q ≡ Some y → x.depth ≡ y.depth + 1

module _ (p : ProgramText) (m : MachineState) (t : ℕ) (K : IsForkJoinState m) (D : AreDeep m.tasks) where
  abbrev m' : MachineState
  m' = step p m t

  stays : TasksStay m m'
  stays = (numbered p m t K).0

  -- a task that was there before
  old : (u : ℕ) (x : Task) → slice_get m'.tasks u ≡ Some x → u < length m.tasks → (z : Task) × (slice_get m.tasks u ≡ Some z) × (x.parent ≡ z.parent) × (x.depth ≡ z.depth)
  old u x is lt =
      let z = got_some m.tasks u lt in
      let y = stays u z.0 z.1 in
      let same : x ≡ y.0 = same_Some x y.0 (sym is ∙ y.1) in
      (z.0, z.1, ap (λ (k : Task). k.parent) same ∙ y.2, ap (λ (k : Task). k.depth) same ∙ y.3)

  old_child : (u q : ℕ) (x y : Task) → u < length m.tasks → slice_get m'.tasks u ≡ Some x → x.parent ≡ Some q → slice_get m'.tasks q ≡ Some y → x.depth ≡ y.depth + 1
  old_child u q x y lt is par iq =
      let z = old u x is lt in
      let up : z.0.parent ≡ Some q = sym z.2 ∙ par in
      let low : q < u = K.tree.low u q (ap parent_of z.1 ∙ up) in
      let r = old q y iq (omega (arith, low, lt)) in
      z.3 ∙ (D.child u q z.0 r.0 z.1 up r.1 ∙ ap (λ n. n + 1) (sym r.3))

  -- or one that a fork has made
  module _ (C : MakesChildren p m m' t) where
    pub new_is : (u : ℕ) (x : Task) → slice_get m'.tasks u ≡ Some x → length m.tasks ≤ u → (x.parent ≡ Some t) × (x.depth ≡ C.task.depth + 1)
    new_is u x is le = elim (cases_eq u (length m.tasks)) [
      | inl e ↦
          let same = same_Some _ x (sym C.left_child ∙ (ap (slice_get m'.tasks) (sym e) ∙ is)) in
          (ap (λ (k : Task). k.parent) (sym same), ap (λ (k : Task). k.depth) (sym same))
      | inr ne ↦
          let lt : u < length m'.tasks = got_within m'.tasks u x is in
          let e : u ≡ length m.tasks + 1 = omega (arith, lt, le, ne, C.made) in
          let same = same_Some _ x (sym C.right_child ∙ (ap (slice_get m'.tasks) (sym e) ∙ is)) in
          (ap (λ (k : Task). k.parent) (sym same), ap (λ (k : Task). k.depth) (sym same))
    ]

    pub new_child : (u q : ℕ) (x y : Task) → length m.tasks ≤ u → slice_get m'.tasks u ≡ Some x → x.parent ≡ Some q → slice_get m'.tasks q ≡ Some y → x.depth ≡ y.depth + 1
    new_child u q x y le is par iq =
        let n = new_is u x is le in
        let own : t ≡ q = same_Some t q (sym n.0 ∙ par) in
        let z = stays t C.task C.next.task in
        let same : z.0 ≡ y = same_Some z.0 y (sym z.1 ∙ (ap (slice_get m'.tasks) own ∙ iq)) in
        n.1 ∙ ap (λ n. n + 1) (sym z.3 ∙ ap (λ (k : Task). k.depth) same)

  none_new : {A : Type 0} (u : ℕ) (x : Task) → length m'.tasks ≡ length m.tasks → slice_get m'.tasks u ≡ Some x → length m.tasks ≤ u → A
  none_new u x e is le = let lt : u < length m'.tasks = got_within m'.tasks u x is in absurd (omega (arith, lt, e, le))

  pub deep_step : AreDeep m'.tasks
  deep_step = record {
    root = λ u x is none. elim (cases_lt u (length m.tasks)) [
      | inl lt ↦ let z = old u x is lt in z.3 ∙ D.root u z.0 z.1 (sym z.2 ∙ none)
      | inr le ↦ elim (numbered p m t K).1 [
        | inl e ↦ none_new u x e is le
        | inr C ↦ some_none (sym (new_is C u x is le).0 ∙ none)
      ]
    ];
    child = λ u q x y is par iq. elim (cases_lt u (length m.tasks)) [
      | inl lt ↦ old_child u q x y lt is par iq
      | inr le ↦ elim (numbered p m t K).1 [
        | inl e ↦ none_new u x e is le
        | inr C ↦ new_child C u q x y le is par iq
      ]
    ];
  }

deep_from : (p : ProgramText) (ts : List ℕ) (m : MachineState) → IsForkJoinState m → AreDeep m.tasks → AreDeep (run_from p m ts).tasks
deep_from p [] m K D = D
deep_from p (t ∷ ts) m K D = deep_from p ts (step p m t) (step_is_fork_join_state p m t K) (deep_step p m t K D)

pub run_deep : (p : ProgramText) (limit : ℕ) (ts : List ℕ) → AreDeep (run p limit ts).tasks
run_deep p limit ts = deep_from p ts (start p limit) (start_is_fork_join_state p limit) (record { root = first; child = none })
  where
    first : (u : ℕ) (x : Task) → slice_get (start p limit).tasks u ≡ Some x → x.parent ≡ None → x.depth ≡ 0
    first zero x e n = ap (λ (k : Task). k.depth) (sym (same_Some _ x e))
    first (suc u) x e n = absurd cc

    none : (u q : ℕ) (x y : Task) → slice_get (start p limit).tasks u ≡ Some x → x.parent ≡ Some q → slice_get (start p limit).tasks q ≡ Some y → x.depth ≡ y.depth + 1
    none zero q x y e par iq = some_none (sym par ∙ ap (λ (k : Task). k.parent) (sym (same_Some _ x e)))
    none (suc u) q x y e par iq = absurd cc

-- ---- BY LINKS

module _ (tasks : List Task) (low : AreLow (parents tasks)) (D : AreDeep tasks) where
  pub deep_by : (more u : ℕ) (x : Task) → u ≤ more → slice_get tasks u ≡ Some x → depth_by (parents tasks) more u ≡ x.depth
  deep_by zero u x le is = sym (D.root u x is (none x.parent refl))
    where
      none : (o : Option ℕ) → x.parent ≡ o → x.parent ≡ None
      none None e = e
      none (Some q) e = let lt : q < u = low u q (ap parent_of is ∙ e) in absurd (omega (arith, lt, le))
  deep_by (suc more) u x le is = deep_by_cases x.parent refl (λ q y lq iq. deep_by more q y lq iq)
    where
      deep_by_cases : (o : Option ℕ) → x.parent ≡ o → ((q : ℕ) (y : Task) → q ≤ more → slice_get tasks q ≡ Some y → depth_by (parents tasks) more q ≡ y.depth) → depth_by (parents tasks) (suc more) u ≡ x.depth
      deep_by_cases None e again = ap (λ o. through o 0 (λ q. suc (depth_by (parents tasks) more q))) (ap parent_of is ∙ e) ∙ sym (D.root u x is e)
      deep_by_cases (Some q) e again =
          let par : parents tasks u ≡ Some q = ap parent_of is ∙ e in
          let lt : q < u = low u q par in
          let within : u < length tasks = got_within tasks u x is in
          let y = got_some tasks q (omega (arith, lt, within)) in
          let up : x.depth ≡ y.0.depth + 1 = D.child u q x y.0 is e y.1 in
          let more_up : suc (depth_by (parents tasks) more q) ≡ suc y.0.depth = ap suc (again q y.0 (omega (arith, lt, le)) y.1) in
          let one : suc y.0.depth ≡ y.0.depth + 1 = omega arith in
          ap (λ o. through o 0 (λ q. suc (depth_by (parents tasks) more q))) par ∙ (more_up ∙ (one ∙ sym up))

  pub deep_in : (par : ℕ → Option ℕ) → ((u : ℕ) → par u ≡ parents tasks u) → (u : ℕ) (x : Task) → slice_get tasks u ≡ Some x → depth_in par u ≡ x.depth
  deep_in par same u x is = ap (λ (f : ℕ → Option ℕ). depth_in f u) (fun_ext same) ∙ deep_by u u x (omega arith) is
