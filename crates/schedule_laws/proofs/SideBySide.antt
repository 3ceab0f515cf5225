-- The strands of two concurrent tasks are unordered.
use Rattle.schedule_laws.proofs.Common.{◌≡◌, ℕ, false, length, ap, sym, ◌∙◌, arith, both_ways, got_within, Task, MachineState, precedes, is_joined, is_waiting, joined, owner_in, parents, path_in, run, run_from, start, strand, strand_of, joins_in, joins_of, waiting, run_is_fork_join_state, start_is_fork_join_state, running_tells, not_above, owner_here, TaskRuns, begun_running, run_keeps, RunningTasksAreApart}
use Rattle.hh_model.proofs.ForkJoinStates.{IsForkJoinState}

module _ (m : MachineState) (K : IsForkJoinState m) (t u : ℕ) (x y : Task) (two : t ≡ u → ⊥) (R : TaskRuns m t x) (S : TaskRuns m u y) where
  live : joined m.tasks t ≡ false
  live = ap is_joined R.is ∙ (running_tells x.status R.running).0

  idle : waiting m.tasks t ≡ false
  idle = ap is_waiting R.is ∙ (running_tells x.status R.running).1

  live_u : joined m.tasks u ≡ false
  live_u = ap is_joined S.is ∙ (running_tells y.status S.running).0

  off_path : path_in (parents m.tasks) t u ≡ false
  off_path = not_above (length m.tasks) (parents m.tasks) (joined m.tasks) (waiting m.tasks) (joins_in m.tasks) m.edges K.tree t u live_u two idle

  now : precedes m.edges (strand t x.joins) (strand u (joins_in m.tasks u)) ≡ path_in (parents m.tasks) (owner_in (parents m.tasks) (joined m.tasks) t) u
  now =
      let e : joins_in m.tasks t ≡ x.joins = ap joins_of R.is in
      K.tree.path t x.joins u (got_within m.tasks t x R.is) (omega arith) (got_within m.tasks u y S.is) live_u

  pub apart : precedes m.edges (strand_of t x) (strand_of u y) ≡ false
  apart =
      ap (λ j. precedes m.edges (strand t x.joins) (strand u j)) (sym (ap joins_of S.is))
      ∙ (now ∙ (ap (λ o. path_in (parents m.tasks) o u) (owner_here (parents m.tasks) (joined m.tasks) t t live) ∙ off_path))

pub running_tasks_are_apart : RunningTasksAreApart
running_tasks_are_apart p limit ts more t u x y two R S w =
    let m = run p limit ts in
    let K : IsForkJoinState m = run_is_fork_join_state p (start p limit) ts (start_is_fork_join_state p limit) in
    let K' : IsForkJoinState (run_from p m more) = run_is_fork_join_state p m more K in
    let stays = (run_keeps p m more K).fixed (strand_of t x) (strand_of u y) (begun_running m u y S) in
    both_ways (precedes (run_from p m more).edges (strand_of t x) (strand_of u y)) (stays ∙ apart m K t u x y two R S) ((K'.tree.right (strand_of t x) (strand_of u y)).1 w)
