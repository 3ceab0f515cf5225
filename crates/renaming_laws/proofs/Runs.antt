-- Runs of renamed tasks.
use Rattle.renaming_laws.proofs.Common.{ℕ, suc, ◌+◌, ◌≤◌, List, [], ◌∷◌, length, map, slice_set, arith, length-append, length-set, ProgramText, Waiting, MachineState, Counted, onward, child, ended_task, joined_task, result_of, resumed, run_from, start, step, IsForkJoinState, counted_step, run_counted, start_counted, run_is_fork_join_state, start_is_fork_join_state, step_is_fork_join_state, step_cases, AreRenamed, RunsAreCarried, IsRenaming}
use Rattle.renaming_laws.proofs.Stepped.{step_to}

-- tasks persist
pub step_grows : (p : ProgramText) (m : MachineState) (t : ℕ) → IsForkJoinState m → length m.tasks ≤ length (step p m t).tasks
step_grows p m t K =
    step_cases p m t K (λ m'. length m.tasks ≤ length m'.tasks) (omega arith) (λ x e is run why. omega arith)
    (λ x y store outs is run ep ed es ej names fields alters grows. omega (arith, length-set m.tasks t y))
    (λ x parent e is run pp which result. omega (arith, length-set m.tasks t (ended_task x (result_of x.top))))
    (λ x g h is run next top.
    omega (arith, length-set m.tasks t (record x { status = Waiting; top = onward x.top }), length-append (slice_set m.tasks t (record x { status = Waiting; top = onward x.top })) (child t (x.depth + 1) g x.top ∷ child t (x.depth + 1) h x.top ∷ [])))
    (λ parent l xp xl xr rl rr ip il ir pl left dl dr wl wr nl nr side.
    omega (
      arith,
      length-set m.tasks l (joined_task xl),
      length-set (slice_set m.tasks l (joined_task xl)) (l + 1) (joined_task xr),
      length-set (slice_set (slice_set m.tasks l (joined_task xl)) (l + 1) (joined_task xr)) parent (resumed xp rl rr),
    ))

pub run_grows : (p : ProgramText) (m : MachineState) (ts : List ℕ) → IsForkJoinState m → length m.tasks ≤ length (run_from p m ts).tasks
run_grows p m [] K = omega arith
run_grows p m (t ∷ ts) K = let a = step_grows p m t K in let b = run_grows p (step p m t) ts (step_is_fork_join_state p m t K) in omega arith

pub run_to : (p : ProgramText) (n : ℕ) (f g : ℕ → ℕ) → IsRenaming n f g → (more : List ℕ) (m m' : MachineState) (k k' : ℕ) → IsForkJoinState m → IsForkJoinState m' → Counted k m.tasks m.store → Counted k' m'.tasks m'.store
    → n ≤ length m.tasks → AreRenamed f m m' → AreRenamed f (run_from p m more) (run_from p m' (map f more))
run_to p n f g R [] m m' k k' K K' I I' made A = A
run_to p n f g R (t ∷ more) m m' k k' K K' I I' made A =
    let up = step_grows p m t K in
    run_to p n f g R more (step p m t) (step p m' (f t)) (suc k) (suc k') (step_is_fork_join_state p m t K) (step_is_fork_join_state p m' (f t) K') (counted_step p m t K k I) (counted_step p m' (f t) K' k' I') (omega arith)
    (step_to p n f g R m m' K K' I.rows I'.rows made A t)

module _ (p : ProgramText) (limit : ℕ) (ts : List ℕ) where
  pub fork_join_here : IsForkJoinState (run_from p (start p limit) ts)
  fork_join_here = run_is_fork_join_state p (start p limit) ts (start_is_fork_join_state p limit)

  pub counted_here : Counted (length ts) (run_from p (start p limit) ts).tasks (run_from p (start p limit) ts).store
  counted_here = run_counted p (start p limit) ts 0 (start_is_fork_join_state p limit) (start_counted p limit) (length ts) (omega arith)

pub runs_are_carried : RunsAreCarried
runs_are_carried p n limit f g ts us more R made A =
    run_to p n f g R more (run_from p (start p limit) ts) (run_from p (start p limit) us) (length ts) (length us) (fork_join_here p limit ts) (fork_join_here p limit us) (counted_here p limit ts) (counted_here p limit us) made A
