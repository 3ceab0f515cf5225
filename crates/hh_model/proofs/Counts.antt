-- How many tasks, objects and joins a number of steps makes.
use Rattle.hh_model.proofs.Common.{◌≡◌, ℕ, ℤ, zero, suc, ◌+◌, ◌*◌, ◌<◌, ◌≤◌, ◌^◌, Option, Some, List, [], ◌∷◌, ◌++◌, length, slice_get, slice_set, inl, inr, refl, ap, sym, subst, ◌∙◌, arith, length-set, length-append, got_cases, ProgramText, same_Some, Name, Object, Task, MachineState, Waiting, row_of, onward, root, child, joined_task, resumed, ended_task, result_of, step, start, run, run_from, sibling, MachineValue, IsOfRun, IsSoundState, advanced, RunsAreCounted, StepsCount}
use Rattle.hh_model.proofs.Closed.{grown_cases, three_cases}
use Rattle.hh_model.proofs.Runs.{grown_length}
use Rattle.hh_model.proofs.ForkJoinStates.{IsForkJoinState, step_is_fork_join_state, start_is_fork_join_state, run_is_fork_join_state, path_is_precedence_in}
use Rattle.hh_model.proofs.Steps.{Alters, step_cases}
pub use Rattle.hh_model.specs.Counts.{Counted}

-- a row that is set
row_set : (store : List (List Object)) (u t k : ℕ) (row : List Object) → length row ≤ k → length (row_of (slice_get store t)) ≤ k → length (row_of (slice_get (slice_set store u row) t)) ≤ k
row_set [] u t k row le old = old
row_set (r ∷ store) zero zero k row le old = le
row_set (r ∷ store) zero (suc t) k row le old = old
row_set (r ∷ store) (suc u) zero k row le old = old
row_set (r ∷ store) (suc u) (suc t) k row le old = row_set store u t k row le old

two_rows : (store : List (List Object)) (t k : ℕ) → length (row_of (slice_get store t)) ≤ k → length (row_of (slice_get (store ++ [] ∷ [] ∷ []) t)) ≤ k
two_rows [] zero k old = omega arith
two_rows [] (suc zero) k old = omega arith
two_rows [] (suc (suc t)) k old = omega arith
two_rows (r ∷ store) zero k old = old
two_rows (r ∷ store) (suc t) k old = two_rows store t k old

module _ (p : ProgramText) (m : MachineState) (t : ℕ) (K : IsForkJoinState m) (k : ℕ) (I : Counted k m.tasks m.store) where
  more : (u : ℕ) → length (row_of (slice_get m.store u)) ≤ suc k
  more u = let h : length (row_of (slice_get m.store u)) ≤ k = I.objects u in omega arith

  later : Counted (suc k) m.tasks m.store
  later = record {
    made = let h : length m.tasks ≤ 2 * k + 1 = I.made in omega arith;
    rows = I.rows;
    objects = more;
    joins = λ u x e. let h : x.joins ≤ k = I.joins u x e in omega arith;
  }

  -- the store after an instruction
  changed : (x : Task) (store : List (List Object)) → Alters p m t x store → (length store ≡ length m.tasks) × ((u : ℕ) → length (row_of (slice_get store u)) ≤ suc k)
  changed x store (inl e) = (ap length e ∙ I.rows, λ u. subst (λ w. length (row_of (slice_get w u)) ≤ suc k) (sym e) (more u))
  changed x store (inr (line, il, inl e)) = (ap length e ∙ I.rows, λ u. subst (λ w. length (row_of (slice_get w u)) ≤ suc k) (sym e) (more u))
  changed x store (inr (line, il, inr (inl a))) = (
    ap length a.is ∙ (length-set m.store t (row_of (slice_get m.store t) ++ a.new ∷ []) ∙ I.rows),
    λ u. subst (λ w. length (row_of (slice_get w u)) ≤ suc k) (sym a.is)
        (row_set m.store t u (suc k) (row_of (slice_get m.store t) ++ a.new ∷ [])
        (let h : length (row_of (slice_get m.store t)) ≤ k = I.objects t in omega (arith, length-append (row_of (slice_get m.store t)) (a.new ∷ []))) (more u)),
  )
  changed x store (inr (line, il, inr (inr w))) =
      let row : List Object = slice_set (row_of (slice_get m.store w.name.task)) w.name.count w.new in (
        ap length w.is ∙ (length-set m.store w.name.task (slice_set (row_of (slice_get m.store w.name.task)) w.name.count w.new) ∙ I.rows),
        λ u. subst (λ s. length (row_of (slice_get s u)) ≤ suc k) (sym w.is)
            (row_set m.store w.name.task u (suc k) (slice_set (row_of (slice_get m.store w.name.task)) w.name.count w.new)
            (let h : length (row_of (slice_get m.store w.name.task)) ≤ k = I.objects w.name.task in omega (arith, length-set (row_of (slice_get m.store w.name.task)) w.name.count w.new)) (more u)),
      )

  joins_set : (y : Task) → y.joins ≤ suc k → (u : ℕ) (z : Task) → slice_get (slice_set m.tasks t y) u ≡ Some z → z.joins ≤ suc k
  joins_set y le u z e = elim (got_cases m.tasks t u y z e) [
    | inl here ↦ subst (λ (w : Task). w.joins ≤ suc k) (sym here.1) le
    | inr old ↦ later.joins u z old
  ]

  pub counted_step : Counted (suc k) (step p m t).tasks (step p m t).store
  counted_step =
      step_cases p m t K (λ m'. Counted (suc k) m'.tasks m'.store) later (λ x e is run why. later)
      (λ x y store outs is run ep ed es ej names fields alters grows. record {
        made = let h : length m.tasks ≤ 2 * k + 1 = I.made in omega (arith, length-set m.tasks t y);
        rows = (changed x store alters).0 ∙ sym (length-set m.tasks t y);
        objects = (changed x store alters).1;
        joins = joins_set y (let h : x.joins ≤ k = I.joins t x is in omega (arith, ej));
      })
      (λ x parent e is run pp which result. record {
        made = let h : length m.tasks ≤ 2 * k + 1 = I.made in omega (arith, length-set m.tasks t (ended_task x (result_of x.top)));
        rows = I.rows ∙ sym (length-set m.tasks t (ended_task x (result_of x.top)));
        objects = more;
        joins = joins_set (ended_task x (result_of x.top)) (let h : x.joins ≤ k = I.joins t x is in omega arith);
      })
      (λ x g h is run next top. record {
        made =
            let b : length m.tasks ≤ 2 * k + 1 = I.made in
            omega (arith, grown_length m.tasks t x (record x { status = Waiting; top = onward x.top }) (child t (x.depth + 1) g x.top) (child t (x.depth + 1) h x.top) is);
        rows =
            let b : length m.store ≡ length m.tasks = I.rows in
            omega (arith, length-append m.store ([] ∷ [] ∷ []), grown_length m.tasks t x (record x { status = Waiting; top = onward x.top }) (child t (x.depth + 1) g x.top) (child t (x.depth + 1) h x.top) is);
        objects = λ u. two_rows m.store u (suc k) (more u);
        joins = λ u z e.
            elim (grown_cases (slice_set m.tasks t (record x { status = Waiting; top = onward x.top })) (child t (x.depth + 1) g x.top) (child t (x.depth + 1) h x.top) u z e) [
              | inl old ↦ joins_set (record x { status = Waiting; top = onward x.top }) (let b : x.joins ≤ k = I.joins t x is in omega arith) u z old
              | inr new ↦ elim new [
                | inl a ↦ subst (λ (w : Task). w.joins ≤ suc k) (sym a.1) (omega arith)
                | inr a ↦ subst (λ (w : Task). w.joins ≤ suc k) (sym a.1) (omega arith)
              ]
            ];
      })
      (λ parent l xp xl xr rl rr ip il ir pl left dl dr wl wr nl nr side. record {
        made =
            let b : length m.tasks ≤ 2 * k + 1 = I.made in
            let e : length (slice_set (slice_set (slice_set m.tasks l (joined_task xl)) (l + 1) (joined_task xr)) parent (resumed xp rl rr)) ≡ length m.tasks = three m l parent xl xr xp rl rr in
            omega arith;
        rows = I.rows ∙ sym (three m l parent xl xr xp rl rr);
        objects = more;
        joins = λ u z e.
            elim (three_cases m.tasks l parent (joined_task xl) (joined_task xr) (resumed xp rl rr) u z e) [
              | inl top ↦ subst (λ (w : Task). w.joins ≤ suc k) (sym top.1) (let b : xp.joins ≤ k = I.joins parent xp ip in omega arith)
              | inr more' ↦ elim more' [
                | inl a ↦ subst (λ (w : Task). w.joins ≤ suc k) (sym a) (let b : xr.joins ≤ k = I.joins (l + 1) xr ir in omega arith)
                | inr more'' ↦ elim more'' [
                  | inl a ↦ subst (λ (w : Task). w.joins ≤ suc k) (sym a) (let b : xl.joins ≤ k = I.joins l xl il in omega arith)
                  | inr old ↦ later.joins u z old
                ]
              ]
            ];
      })
    where
      three : (m : MachineState) (l parent : ℕ) (xl xr xp : Task) (rl rr : ℤ × Option Name) → length (slice_set (slice_set (slice_set m.tasks l (joined_task xl)) (l + 1) (joined_task xr)) parent (resumed xp rl rr)) ≡ length m.tasks
      three m l parent xl xr xp rl rr =
          length-set (slice_set (slice_set m.tasks l (joined_task xl)) (l + 1) (joined_task xr)) parent (resumed xp rl rr)
          ∙ (length-set (slice_set m.tasks l (joined_task xl)) (l + 1) (joined_task xr) ∙ length-set m.tasks l (joined_task xl))

-- RUNS

pub run_on : (p : ProgramText) (ts us : List ℕ) (m : MachineState) → run_from p m (ts ++ us) ≡ run_from p (run_from p m ts) us
run_on p [] us m = refl
run_on p (t ∷ ts) us m = run_on p ts us (step p m t)

pub run_push : (p : ProgramText) (m : MachineState) (ts : List ℕ) (t : ℕ) → run_from p m (ts ++ t ∷ []) ≡ step p (run_from p m ts) t
run_push p m [] t = refl
run_push p m (u ∷ ts) t = run_push p (step p m u) ts t

-- the limit of fields stays
pub step_limit : (p : ProgramText) (m : MachineState) (t : ℕ) → IsForkJoinState m → (step p m t).field_limit ≡ m.field_limit
step_limit p m t K =
    step_cases p m t K (λ m'. m'.field_limit ≡ m.field_limit) refl (λ x e is run why. refl) (λ x y store outs is run ep ed es ej names fields alters grows. refl)
    (λ x parent e is run pp which result. refl) (λ x g h is run next top. refl) (λ parent l xp xl xr rl rr ip il ir pl left dl dr wl wr nl nr side. refl)

pub start_counted : (p : ProgramText) (limit : ℕ) → Counted 0 (start p limit).tasks (start p limit).store
start_counted p limit = record { made = omega arith; rows = refl; objects = none; joins = first }
  where
    none : (t : ℕ) → length (row_of (slice_get ([] ∷ []) t)) ≤ 0
    none zero = omega arith
    none (suc t) = omega arith

    first : (t : ℕ) (x : Task) → slice_get (start p limit).tasks t ≡ Some x → x.joins ≤ 0
    first zero x e = subst (λ (w : Task). w.joins ≤ 0) (same_Some (root p) x e) (omega arith)
    first (suc t) x e = absurd cc

pub run_counted : (p : ProgramText) (m : MachineState) (ts : List ℕ) (k : ℕ) → IsForkJoinState m → Counted k m.tasks m.store → (n : ℕ) → n ≡ k + length ts → Counted n (run_from p m ts).tasks (run_from p m ts).store
run_counted p m [] k K I n e = subst (λ j. Counted j m.tasks m.store) (let h : k ≡ n = omega arith in h) I
run_counted p m (t ∷ ts) k K I n e = run_counted p (step p m t) ts (suc k) (step_is_fork_join_state p m t K) (counted_step p m t K k I) n (omega arith)

pub runs_are_counted : RunsAreCounted
runs_are_counted p limit ts = run_counted p (start p limit) ts 0 (start_is_fork_join_state p limit) (start_counted p limit) (length ts) (omega arith)

pub steps_count : StepsCount
steps_count p m t k K I = counted_step p m t K k I

-- the store has a row for each task
pub rows_from : (p : ProgramText) (m : MachineState) (ts : List ℕ) (k : ℕ) → IsForkJoinState m → Counted k m.tasks m.store → length (run_from p m ts).store ≡ length (run_from p m ts).tasks
rows_from p m [] k K I = I.rows
rows_from p m (t ∷ ts) k K I = rows_from p (step p m t) ts (suc k) (step_is_fork_join_state p m t K) (counted_step p m t K k I)

-- MACHINES

pub step_reached : (g : MachineValue) (t : ℕ) → IsOfRun g → IsOfRun (advanced g t)
step_reached g t r =
    let K : IsForkJoinState g.state = subst IsForkJoinState (sym r.2) (run_is_fork_join_state g.program (start g.program g.state.field_limit) r.0 (start_is_fork_join_state g.program g.state.field_limit)) in (
      r.0 ++ t ∷ [],
      length-append r.0 (t ∷ []) ∙ ap (λ k. k + 1) r.1,
      ap (λ s. step g.program s t) r.2 ∙ (sym (run_push g.program (start g.program g.state.field_limit) r.0 t)
          ∙ ap (λ limit. run g.program limit (r.0 ++ t ∷ [])) (sym (step_limit g.program g.state t K))),
    )

pub reached_sound : (g : MachineValue) → IsOfRun g → g.steps < 2 ^ 30 → IsSoundState g.state
reached_sound g r few =
    let K : IsForkJoinState g.state = subst IsForkJoinState (sym r.2) (run_is_fork_join_state g.program (start g.program g.state.field_limit) r.0 (start_is_fork_join_state g.program g.state.field_limit)) in
    let I : Counted (length r.0) g.state.tasks g.state.store =
    subst (λ (s : MachineState). Counted (length r.0) s.tasks s.store) (sym r.2) (run_counted g.program (start g.program g.state.field_limit) r.0 0 (start_is_fork_join_state g.program g.state.field_limit) (start_counted g.program g.state.field_limit) (length r.0) (omega arith)) in
    record {
      path = path_is_precedence_in g.state K;
      above = K.tree.low;
      above_sibling = λ t q e. K.tree.low (sibling t) q (K.tree.pairs t q e);
      rows = I.rows;
      few_tasks = let h : length g.state.tasks ≤ 2 * length r.0 + 1 = I.made in omega (arith, r.1);
      few_objects = λ t. let h : length (row_of (slice_get g.state.store t)) ≤ length r.0 = I.objects t in omega (arith, r.1);
      few_joins = λ t x e. let h : x.joins ≤ length r.0 = I.joins t x e in omega (arith, r.1);
    }
