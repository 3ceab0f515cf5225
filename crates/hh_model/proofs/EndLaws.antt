-- How a run ended, and the run before its end.
use Rattle.hh_model.proofs.Common.{◌≡◌, ℕ, true, false, Option, Some, None, List, [], ◌∷◌, ◌++◌, slice_get, slice_set, ◌⊎◌, inl, inr, refl, ap, sym, subst, ◌∙◌, is_some, append_assoc, cases_eq, false≢true, same_Some, none_some, ProgramText, Task, End, Done, MachineState, can_step, ended_task, goes_on, is_running, result_of, run, run_from, start, step, IsForkJoinState, EndsDone, IsEnded, unended}
use Rattle.hh_model.proofs.Counts.{run_push}
use Rattle.hh_model.proofs.ForkJoinStates.{run_is_fork_join_state, start_is_fork_join_state}
use Rattle.hh_model.proofs.Root.{OneRoot, run_root}
use Rattle.hh_model.proofs.Steps.{step_cases}
use Rattle.hh_model.proofs.Taken.{step_idle}

pub still : (m : MachineState) → m.end ≡ None → unended m ≡ m
still m none = λ i. record m { end = (sym none) i }

-- the step that ends the run
module _ (p : ProgramText) (m : MachineState) (t : ℕ) (K : IsForkJoinState m) (R : OneRoot m.tasks) (none : m.end ≡ None) (e : End) where
  abbrev Ended : MachineState → Type 0
  Ended m' = m'.end ≡ Some e → (unended m' ≡ m) ⊎ EndsDone m e m'

  ended_unchanged : (m' : MachineState) → m'.end ≡ m.end → Ended m'
  ended_unchanged m' q h = none_some (sym none ∙ (sym q ∙ h))

  done : (x : Task) (parent : Option ℕ) (o : Option End) → slice_get m.tasks t ≡ Some x → is_running (Some x) ≡ true → x.parent ≡ parent
      → ((parent ≡ None) × (o ≡ Some Done)) ⊎ (is_some parent ≡ true) × (o ≡ m.end) → Ended (record m { tasks = slice_set m.tasks t (ended_task x (result_of x.top)); end = o })
  done x parent o is run pp (inl root) h =
      let first : t ≡ 0 = R t x is (pp ∙ root.0) in
      inr (record {
        done = same_Some e Done (sym h ∙ root.1);
        root = x;
        is = ap (slice_get m.tasks) (sym first) ∙ is;
        running = run;
        ended = λ i. record m { tasks = slice_set m.tasks (first i) (ended_task x (result_of x.top)); end = (sym none) i };
      })
  done x parent o is run pp (inr child) h = none_some (sym none ∙ (sym child.1 ∙ h))

  last_step : Ended (step p m t)
  last_step =
      step_cases p m t K Ended (ended_unchanged m refl) (λ x e' is run why h. inl (still m none))
      (λ x y store outs is run ep ed es ej names fields alters grows h. none_some (sym none ∙ h))
      (λ x parent o is run pp which result. done x parent o is run pp which)
      (λ x g h is run next top q. none_some (sym none ∙ q))
      (λ parent l xp xl xr rl rr ip il ir pl left dl dr wl wr nl nr side h. none_some (sym none ∙ h))

-- nothing changes after the end
idle_by : (m : MachineState) (t : ℕ) (o : Option End) (e : End) → m.end ≡ Some e → can_step m t ≡ false
idle_by m t o e h = ap (λ q. goes_on q (is_running (slice_get m.tasks t))) h

pub ended_stays : (p : ProgramText) (m : MachineState) (ts : List ℕ) (e : End) → m.end ≡ Some e → run_from p m ts ≡ m
ended_stays p m [] e h = refl
ended_stays p m (t ∷ ts) e h =
    let idle : step p m t ≡ m = step_idle p m t (idle_by m t m.end e h) in
    ap (λ k. run_from p k ts) idle ∙ ended_stays p m ts e h

module _ (p : ProgramText) (limit : ℕ) (all : List ℕ) (e : End) where
  abbrev At : List ℕ → MachineState
  At ts = run p limit ts

  fork_join_at : (ts : List ℕ) → IsForkJoinState (At ts)
  fork_join_at ts = run_is_fork_join_state p (start p limit) ts (start_is_fork_join_state p limit)

  ends_here : (before : List ℕ) (t : ℕ) (rest : List ℕ) (q : End) → all ≡ before ++ t ∷ rest → (At before).end ≡ None → (step p (At before) t).end ≡ Some q → run_from p (step p (At before) t) rest ≡ At all
      → (At all).end ≡ Some e → IsEnded p limit all e
  ends_here before t rest q is going ends whole h =
      let last : At all ≡ step p (At before) t = sym whole ∙ ended_stays p (step p (At before) t) rest q ends in
      let changes = last_step p (At before) t (fork_join_at before) (run_root p limit before) going e (ap (λ (m : MachineState). m.end) (sym last) ∙ h) in
      record {
        before = before;
        last = t;
        rest = rest;
        is = is;
        going = going;
        after = last;
        changes = subst (λ m. (unended m ≡ At before) ⊎ EndsDone (At before) e m) (sym last) changes;
      }

  module _ (h : (At all).end ≡ Some e) where
    ends_by : (before : List ℕ) (t : ℕ) (rest : List ℕ) → (((At (before ++ t ∷ [])).end ≡ None) → IsEnded p limit all e) → all ≡ before ++ t ∷ rest → (At before).end ≡ None
        → run_from p (step p (At before) t) rest ≡ At all → (o : Option End) → (step p (At before) t).end ≡ o → IsEnded p limit all e
    ends_by before t rest more is going whole None ends = more (ap (λ (m : MachineState). m.end) (run_push p (start p limit) before t) ∙ ends)
    ends_by before t rest more is going whole (Some q) ends = ends_here before t rest q is going ends whole h
