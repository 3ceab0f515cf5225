-- Tasks are numbered in the order of the forks.
use Rattle.hh_model.proofs.Common.{◌≡◌, ℕ, ◌+◌, ◌<◌, Some, List, [], ◌∷◌, ◌++◌, length, slice_get, slice_set, ◌⊎◌, inl, inr, refl, ap, sym, ◌∙◌, arith, length-set, cases_eq, same_Some, got_same, got_other, got_front, got_within, ProgramText, Waiting, Task, MachineState, onward, step, run, parent_of, child, joined_task, resumed, ended_task, result_of, TasksStay, MakesChildren}
use Rattle.hh_model.proofs.Runs.{grown_length, grown_left, grown_right}
use Rattle.hh_model.proofs.ForkJoinStates.{IsForkJoinState}
use Rattle.hh_model.proofs.Steps.{step_cases}

-- a task in the position of another: with the same parent and depth
abbrev Stands : List Task → ℕ → Task → Type 0
Stands tasks u x = (y : Task) × (slice_get tasks u ≡ Some y) × (y.parent ≡ x.parent) × (y.depth ≡ x.depth)

set_stands : (tasks : List Task) (t u : ℕ) (x y z : Task) → slice_get tasks t ≡ Some x → y.parent ≡ x.parent → y.depth ≡ x.depth → Stands tasks u z → Stands (slice_set tasks t y) u z
set_stands tasks t u x y z is p d s =
    elim (cases_eq u t) [
      | inl e ↦
          let same : s.0 ≡ x = same_Some s.0 x (sym s.1 ∙ (ap (slice_get tasks) e ∙ is)) in
          (y, ap (slice_get (slice_set tasks t y)) e ∙ got_same tasks t x y is, p ∙ (ap (λ (w : Task). w.parent) (sym same) ∙ s.2), d ∙ (ap (λ (w : Task). w.depth) (sym same) ∙ s.3))
      | inr ne ↦ (s.0, got_other tasks t u y ne ∙ s.1, s.2, s.3)
    ]

more_stands : (tasks : List Task) (c d : Task) (u : ℕ) (z : Task) → Stands tasks u z → Stands (tasks ++ c ∷ d ∷ []) u z
more_stands tasks c d u z s = (s.0, got_front tasks (c ∷ d ∷ []) u (got_within tasks u s.0 s.1) ∙ s.1, s.2, s.3)

module _ (p : ProgramText) (m : MachineState) (t : ℕ) (K : IsForkJoinState m) where
  abbrev Numbered : MachineState → Type 0
  Numbered m' = TasksStay m m' × ((length m'.tasks ≡ length m.tasks) ⊎ MakesChildren p m m' t)

  stays : TasksStay m m
  stays u x is = (x, is, refl, refl)

  numbered_unchanged : Numbered m
  numbered_unchanged = (stays, inl refl)

  pub numbered : Numbered (step p m t)
  numbered =
      step_cases p m t K Numbered numbered_unchanged (λ x e is run why. (stays, inl refl))
      (λ x y store outs is run ep ed es ej names fields alters grows. (λ u z iz. set_stands m.tasks t u x y z is ep ed (stays u z iz), inl (length-set m.tasks t y)))
      (λ x parent e is run pp which result. (λ u z iz. set_stands m.tasks t u x (ended_task x (result_of x.top)) z is refl refl (stays u z iz), inl (length-set m.tasks t (ended_task x (result_of x.top)))))
      (λ x g h is run next top. (
        λ u z iz. more_stands (slice_set m.tasks t (record x { status = Waiting; top = onward x.top })) (child t (x.depth + 1) g x.top) (child t (x.depth + 1) h x.top) u z
            (set_stands m.tasks t u x (record x { status = Waiting; top = onward x.top }) z is refl refl (stays u z iz)),
        inr (record {
          task = x;
          line = next.0;
          left = g;
          right = h;
          next = record { task = is; fetched = next.1 };
          forks = next.2;
          made = grown_length m.tasks t x (record x { status = Waiting; top = onward x.top }) (child t (x.depth + 1) g x.top) (child t (x.depth + 1) h x.top) is;
          left_child = grown_left m.tasks t x (record x { status = Waiting; top = onward x.top }) (child t (x.depth + 1) g x.top) (child t (x.depth + 1) h x.top) is;
          right_child = grown_right m.tasks t x (record x { status = Waiting; top = onward x.top }) (child t (x.depth + 1) g x.top) (child t (x.depth + 1) h x.top) is;
        }),
      ))
      (λ parent l xp xl xr rl rr ip il ir pl left dl dr wl wr nl nr side. (
        λ u z iz. set_stands (slice_set (slice_set m.tasks l (joined_task xl)) (l + 1) (joined_task xr)) parent u xp (resumed xp rl rr) z (ip2 l parent xl xr xp ip il ir pl) refl refl
            (set_stands (slice_set m.tasks l (joined_task xl)) (l + 1) u xr (joined_task xr) z (ir1 l xl xr ir) refl refl
            (set_stands m.tasks l u xl (joined_task xl) z il refl refl (stays u z iz))),
        inl (length-set (slice_set (slice_set m.tasks l (joined_task xl)) (l + 1) (joined_task xr)) parent (resumed xp rl rr)
            ∙ (length-set (slice_set m.tasks l (joined_task xl)) (l + 1) (joined_task xr) ∙ length-set m.tasks l (joined_task xl))),
      ))
    where
      ir1 : (l : ℕ) (xl xr : Task) → slice_get m.tasks (l + 1) ≡ Some xr → slice_get (slice_set m.tasks l (joined_task xl)) (l + 1) ≡ Some xr
      ir1 l xl xr ir = got_other m.tasks l (l + 1) (joined_task xl) (λ e. omega arith) ∙ ir

      ip2 : (l parent : ℕ) (xl xr xp : Task) → slice_get m.tasks parent ≡ Some xp → slice_get m.tasks l ≡ Some xl → slice_get m.tasks (l + 1) ≡ Some xr → xl.parent ≡ Some parent
          → slice_get (slice_set (slice_set m.tasks l (joined_task xl)) (l + 1) (joined_task xr)) parent ≡ Some xp
      ip2 l parent xl xr xp ip il ir pl =
          let lt : parent < l = K.tree.low l parent (ap parent_of il ∙ pl) in
          got_other (slice_set m.tasks l (joined_task xl)) (l + 1) parent (joined_task xr) (λ e. omega arith) ∙ (got_other m.tasks l parent (joined_task xl) (λ e. omega arith) ∙ ip)
