-- Lines of spawns from the root.
use Rattle.log_walk.proofs.Common.{◌≡◌, ℕ, zero, suc, ◌+◌, ◌-◌, ◌<◌, ◌≤◌, List, length, inl, inr, subst, arith, cases_lt, GraphTurn, tasks_in, IsForkJoin, SpawnsBelow, IsLine, levels_are_few}

module _ (rows : List (List GraphTurn)) (fj : IsForkJoin (tasks_in rows)) (some : 0 < length rows) (below : SpawnsBelow (tasks_in rows) (length rows)) where
  first_part : (d k t : ℕ) → IsLine (tasks_in rows) 0 (d + k) t → (s : ℕ) × IsLine (tasks_in rows) 0 k s
  first_part zero k t line = (t, subst (λ m. IsLine (tasks_in rows) 0 m t) (let e : 0 + k ≡ k = omega arith in e) line)
  first_part (suc d) k t line =
      let more : IsLine (tasks_in rows) 0 (suc (d + k)) t = subst (λ m. IsLine (tasks_in rows) 0 m t) (let e : suc d + k ≡ suc (d + k) = omega arith in e) line in
      first_part d k more.0 more.1

  -- a line of tasks is shorter than there are tasks
  pub line_short : (k t : ℕ) → IsLine (tasks_in rows) 0 k t → k < length rows
  line_short k t line =
      elim (cases_lt k (length rows)) [
        | inl less ↦ less
        | inr ge ↦
            let sum : k ≡ (k - length rows) + length rows = omega arith in
            let part = first_part (k - length rows) (length rows) t (subst (λ m. IsLine (tasks_in rows) 0 m t) sum line) in
            absurd (levels_are_few (tasks_in rows) (length rows) fj some below part.0 part.1)
      ]
