-- Once main has returned, no task waits.
use Rattle.run_log_laws.proofs.Common.{◌≡◌, ◌<◌, ◌+◌, ℕ, zero, suc, Bool, true, false, Option, Some, None, List, [], ◌∷◌, ◌++◌, length, slice_get, slice_set, append-nil, append_assoc, ◌⊎◌, inl, inr, refl, ap, sym, subst, ◌∙◌, arith, both_ways, IsNested, ProgramText, is_joined, step, run, start, is_running, is_waiting, joined, parents, parent_of, ended_task, result_of, End, Done, Trapped, Entangled, MachineState, Task, Trap, run_push, ended_stays, IsForkJoinState, run_is_fork_join_state, start_is_fork_join_state, running_tells, OneRoot, run_root, step_cases, got_same, turns_of, RunsAreForkJoin}
use Rattle.hh_model.specs.Tree.{waiting, joins_in}
use Rattle.run_log_laws.proofs.Rows.{open_turns}
use Rattle.run_log_laws.proofs.Runs.{run_rows, run_pairs}
use Rattle.run_log_laws.proofs.Completing.{told_before, kept_before, pairs_fork_join, pairs_below, pairs_reached, joined_at_end, joined_whole}

-- THE ROOT HAS ENDED

not_done : (kind : Trap) (t line : ℕ) → Some (Trapped kind t line) ≡ Some Done → ⊥
not_done kind t line e = absurd cc

not_stopped : (t owner : ℕ) → Some (Entangled t owner) ≡ Some Done → ⊥
not_stopped t owner e = absurd cc

abbrev RestsOnceDone : MachineState → Type 0
RestsOnceDone m = m.end ≡ Some Done → (waiting m.tasks 0 ≡ false) × (is_running (slice_get m.tasks 0) ≡ false)

module _ (p : ProgramText) (m : MachineState) (t : ℕ) (K : IsForkJoinState m) (root : OneRoot m.tasks) (going : m.end ≡ None) where
  goes_on : {A : Type 0} → m.end ≡ Some Done → A
  goes_on done = absurd (let e : None ≡ Some Done = sym going ∙ done in cc)

  pub done_rests : RestsOnceDone (step p m t)
  done_rests =
      step_cases p m t K RestsOnceDone
      (λ done. goes_on done)
      (λ x e is run halts done. elim halts [
        | inl (kind, line, e') ↦ absurd (not_done kind t line (ap (λ k. Some k) (sym e') ∙ done))
        | inr stop ↦ absurd (not_stopped t _ (ap (λ k. Some k) (sym stop.3) ∙ done))
      ])
      (λ x y store outs is run ep ed es ej names fields alters grows done. goes_on done)
      (λ x parent e is run pp which result done. elim which [
        | inl none ↦
            let at : t ≡ 0 = root t x is (pp ∙ none.0) in
            let now = ap (λ k. slice_get (slice_set m.tasks t (ended_task x (result_of x.top))) k) (sym at) ∙ got_same m.tasks t x (ended_task x (result_of x.top)) is in
            (ap is_waiting now, ap is_running now)
        | inr some ↦ goes_on (sym some.1 ∙ done)
      ])
      (λ x g h is run next names done. goes_on done)
      (λ parent l xp xl xr rl rr ip il ir pl left dl dr wl wr nl nr side done. goes_on done)

-- AND NO OTHER TASK WAITS

module _ (n : ℕ) (par : ℕ → Option ℕ) (jd wt : ℕ → Bool) (waits : (t p : ℕ) → par t ≡ Some p → jd t ≡ false → wt p ≡ true) (low : (t p : ℕ) → par t ≡ Some p → p < t)
    (apart : (t : ℕ) → wt t ≡ true → jd t ≡ false) (up : (t : ℕ) → wt t ≡ true → (t ≡ 0) ⊎ ((p : ℕ) × (par t ≡ Some p))) (rests : wt 0 ≡ false) where
  none_by : (k t : ℕ) → t < k → wt t ≡ true → ⊥
  none_by zero t lt w = omega (arith, lt)
  none_by (suc k) t lt w = elim (up t w) [
    | inl root ↦ both_ways (wt 0) rests (ap wt (sym root) ∙ w)
    | inr (q, pq) ↦ let less = low t q pq in none_by k q (omega (arith, lt, less)) (waits t q pq (apart t w))
  ]

  pub none_waits : (t : ℕ) → wt t ≡ false
  none_waits t = none_waits_by_cases (wt t) refl
    where
      none_waits_by_cases : (b : Bool) → wt t ≡ b → wt t ≡ false
      none_waits_by_cases true e = absurd (none_by (suc t) t (omega arith) e)
      none_waits_by_cases false e = e

module _ (p : ProgramText) (limit : ℕ) (ts : List ℕ) where
  abbrev m : MachineState
  m = run p limit ts

  state : (us : List ℕ) → IsForkJoinState (run p limit us)
  state us = run_is_fork_join_state p (start p limit) us (start_is_fork_join_state p limit)

  one_step : (us : List ℕ) (t : ℕ) (o : Option End) → (run p limit us).end ≡ o → RestsOnceDone (run p limit us) → RestsOnceDone (run p limit (us ++ t ∷ []))
  one_step us t None going h = subst RestsOnceDone (sym (run_push p (start p limit) us t)) (done_rests p (run p limit us) t (state us) (run_root p limit us) going)
  one_step us t (Some q) e h = subst RestsOnceDone (sym (run_push p (start p limit) us t ∙ ended_stays p (run p limit us) (t ∷ []) q e)) h

  along : (us vs : List ℕ) → RestsOnceDone (run p limit us) → RestsOnceDone (run p limit (us ++ vs))
  along us [] h = subst (λ ws. RestsOnceDone (run p limit ws)) (sym (append-nil us)) h
  along us (t ∷ vs) h = subst (λ ws. RestsOnceDone (run p limit ws)) (append_assoc us (t ∷ []) vs) (along (us ++ t ∷ []) vs (one_step us t (run p limit us).end refl h))

  rests : RestsOnceDone m
  rests = along [] ts (λ done. absurd (let e : None ≡ Some Done = done in cc))

  has_parent : (t : ℕ) → waiting m.tasks t ≡ true → (t ≡ 0) ⊎ ((q : ℕ) × (parents m.tasks t ≡ Some q))
  has_parent t w = has_parent_by_cases (slice_get m.tasks t) refl
    where
      by_parent : (x : Task) (o : Option ℕ) → slice_get m.tasks t ≡ Some x → x.parent ≡ o → (t ≡ 0) ⊎ ((q : ℕ) × (parents m.tasks t ≡ Some q))
      by_parent x None is e = inl (run_root p limit ts t x is e)
      by_parent x (Some q) is e = inr (q, ap parent_of is ∙ e)

      has_parent_by_cases : (o : Option Task) → slice_get m.tasks t ≡ o → (t ≡ 0) ⊎ ((q : ℕ) × (parents m.tasks t ≡ Some q))
      has_parent_by_cases None e = absurd (both_ways (waiting m.tasks t) (ap is_waiting e) w)
      has_parent_by_cases (Some x) e = by_parent x x.parent e refl

  -- nor runs
  none_runs : m.end ≡ Some Done → (t : ℕ) → is_running (slice_get m.tasks t) ≡ false
  none_runs done t = none_runs_by_cases (slice_get m.tasks t) (is_running (slice_get m.tasks t)) refl refl
    where
      idle : (u : ℕ) → waiting m.tasks u ≡ false
      idle = none_waits (length m.tasks) (parents m.tasks) (joined m.tasks) (waiting m.tasks) (state ts).tree.waits (state ts).tree.low (state ts).tree.apart has_parent (rests done).0

      runs : (x : Task) (o : Option ℕ) → slice_get m.tasks t ≡ Some x → is_running (Some x) ≡ true → x.parent ≡ o → ⊥
      runs x None is run e = both_ways (is_running (slice_get m.tasks 0)) (rests done).1 (ap (λ k. is_running (slice_get m.tasks k)) (sym (run_root p limit ts t x is e)) ∙ (ap is_running is ∙ run))
      runs x (Some q) is run e = both_ways (waiting m.tasks q) (idle q) ((state ts).tree.waits t q (ap parent_of is ∙ e) (ap is_joined is ∙ (running_tells x.status run).0))

      none_runs_by_cases : (o : Option Task) (b : Bool) → slice_get m.tasks t ≡ o → is_running (slice_get m.tasks t) ≡ b → is_running (slice_get m.tasks t) ≡ false
      none_runs_by_cases o false is e = e
      none_runs_by_cases None true is e = ap is_running is
      none_runs_by_cases (Some x) true is e = absurd (runs x x.parent is (ap is_running (sym is) ∙ e) refl)

  pub all_ended : m.end ≡ Some Done → (t : ℕ) → (is_running (slice_get m.tasks t) ≡ false) × (is_waiting (slice_get m.tasks t) ≡ false)
  all_ended done t = (none_runs done t, none_waits (length m.tasks) (parents m.tasks) (joined m.tasks) (waiting m.tasks) (state ts).tree.waits (state ts).tree.low (state ts).tree.apart has_parent (rests done).0 t)

  nested : m.end ≡ Some Done → IsNested (turns_of m.edges)
  nested done =
      let K = (state ts).tree in
      let R = run_rows p limit ts in
      let Q = run_pairs p limit ts in
      let idle = none_waits (length m.tasks) (parents m.tasks) (joined m.tasks) (waiting m.tasks) K.waits K.low K.apart has_parent (rests done).0 in
      record {
        fork_join = pairs_fork_join (length m.tasks) (parents m.tasks) (joined m.tasks) (joins_in m.tasks) m.edges (turns_of m.edges) R.turns Q;
        all_joined = λ c t i h.
            let all = R.count t in
            let z : open_turns (waiting m.tasks t) ≡ 0 = ap open_turns (idle t) in
            (i + 2, joined_at_end (length m.tasks) (parents m.tasks) (joined m.tasks) (joins_in m.tasks) m.edges (turns_of m.edges) R.turns Q t i c (omega (arith, all, z)) h);
      }

pub runs_are_fork_join : RunsAreForkJoin
runs_are_fork_join p limit ts =
    let m = run p limit ts in
    let R = run_rows p limit ts in
    let Q = run_pairs p limit ts in
    let tasks = turns_of m.edges in
    let whole = joined_whole (length m.tasks) (parents m.tasks) (joined m.tasks) (joins_in m.tasks) m.edges tasks R.turns Q in (
      record {
        fork_join = pairs_fork_join (length m.tasks) (parents m.tasks) (joined m.tasks) (joins_in m.tasks) m.edges tasks R.turns Q;
        below = pairs_below (length m.tasks) (parents m.tasks) (joined m.tasks) (joins_in m.tasks) m.edges tasks R.turns Q;
        reached = pairs_reached (length m.tasks) (parents m.tasks) (joined m.tasks) (joins_in m.tasks) m.edges tasks R.turns Q;
        same = λ u v st. (kept_before tasks whole u v, told_before tasks whole u v st);
      },
      nested p limit ts,
    )
