-- The turns of every run are its edges.
use Rattle.run_log_laws.proofs.Common.{◌≡◌, ◌<◌, ◌≤◌, ◌+◌, ◌*◌, ℕ, zero, suc, ℤ, Bool, true, false, Option, Some, List, [], ◌∷◌, ◌++◌, length, slice_get, slice_set, ◌⊎◌, inl, inr, refl, ap, sym, subst, ◌∙◌, arith, eq-eqb, ne_eqb, cases_eq, cases_lt, fun_ext, In, same_view, got_within, ProgramText, Par, Line, Name, Edge, Task, Waiting, MachineState, task_names, onward, Precedes, runs, waits, is_over, is_running, is_joined, is_waiting, parents, joined, path_in, strand, strand_of, edge, is_left, child, joined_task, resumed, join_of, ended_task, result_of, fetched, step, run, run_from, start, root, waiting, joins_of, joins_in, running_tells, grown_view, wrest_fork, grown_at, three_top, three_left, three_right, three_other, below, dp, wp, joiner_live, join_tree, drest, IsForkJoinState, step_is_fork_join_state, start_is_fork_join_state, step_cases, owner_here, path_itself, Tree, turns_of, WalksAgree, ◌%◌, cond, length-set, eqb-true, parent_of, grown_length, grown_left, grown_right, grown_past, grown_view_front, three_length, three_view, parr, got_past}
use Rattle.run_log_laws.proofs.Walks.{to_graph, from_graph}
use Rattle.run_log_laws.proofs.Rows.{Rows, open_turns, forks_keep_rows, joins_keep_rows}
use Rattle.run_log_laws.proofs.Pairs.{Pairs, side_of, forks_keep_pairs, joins_keep_pairs}

abbrev pub RowsOf : MachineState → Type 0
RowsOf m = Rows (joined m.tasks) (waiting m.tasks) (joins_in m.tasks) m.edges

-- and each child of a fork is joined two turns after its spawn
abbrev pub PairsOf : MachineState → Type 0
PairsOf m = Pairs (length m.tasks) (parents m.tasks) (joined m.tasks) (joins_in m.tasks) (turns_of m.edges)

-- by equal views
pairs_by : (n n' : ℕ) (par par' : ℕ → Option ℕ) (jd jd' : ℕ → Bool) (js js' : ℕ → ℕ) (es es' : List Edge) → n' ≡ n → par' ≡ par → jd' ≡ jd → js' ≡ js → es' ≡ es → Pairs n par jd js (turns_of es) → Pairs n' par' jd' js' (turns_of es')
pairs_by n n' par par' jd jd' js js' es es' en ep ed ej ee P =
    subst (λ x. Pairs x par' jd' js' (turns_of es')) (sym en)
    (subst (λ f. Pairs n f jd' js' (turns_of es')) (sym ep)
    (subst (λ f. Pairs n par f js' (turns_of es')) (sym ed)
    (subst (λ f. Pairs n par jd f (turns_of es')) (sym ej)
    (subst (λ x. Pairs n par jd js (turns_of x)) (sym ee) P))))

rows_by : (jd jd' wt wt' : ℕ → Bool) (js js' : ℕ → ℕ) (es es' : List Edge) → jd' ≡ jd → wt' ≡ wt → js' ≡ js → es' ≡ es → Rows jd wt js es → Rows jd' wt' js' es'
rows_by jd jd' wt wt' js js' es es' ed ew ej ee R =
    subst (λ x. Rows jd' wt' js' x) (sym ee)
    (subst (λ f. Rows jd' wt' f es) (sym ej)
    (subst (λ f. Rows jd' f js es) (sym ew)
    (subst (λ f. Rows f wt js es) (sym ed) R)))

-- without edges nothing has a turn
start_rows : (p : ProgramText) (limit : ℕ) → RowsOf (start p limit)
start_rows p limit = record {
  turns = record {
    spawns = λ t i c h. absurd cc;
    joins = λ t i c h. absurd cc;
    forks = λ e i first. absurd i;
    ends = λ e fork i later. absurd i;
    rising = λ t fork c h. absurd cc;
  };
  count = none_by;
}
  where
    none_by : (t : ℕ) → 0 ≡ 4 * joins_in (root p ∷ []) t + open_turns (waiting (root p ∷ []) t)
    none_by zero = refl
    none_by (suc t) = refl

start_pairs : (p : ProgramText) (limit : ℕ) → PairsOf (start p limit)
start_pairs p limit = record {
  below = λ t i c h. absurd cc;
  once = λ c t i t' i' h h'. absurd cc;
  back = λ t i c h. absurd cc;
  next = λ t j c h lt. absurd cc;
  last_fork = λ c q pc out. absurd (no_parent c q pc);
  made = λ c some few. absurd (omega (arith, some, few));
}
  where
    no_parent : (c q : ℕ) → parents (root p ∷ []) c ≡ Some q → ⊥
    no_parent zero q e = absurd cc
    no_parent (suc c) q e = absurd cc

even_next : (n : ℕ) → n % 2 ≡ 1 → side_of (n + 1) ≡ 1
even_next n odd = ap (λ b. cond b 0 1) (ne_eqb ((n + 1) % 2) 1 (λ e. omega (arith, odd, e)))

module _ (p : ProgramText) (m : MachineState) (t : ℕ) (K : IsForkJoinState m) (R : RowsOf m) (P : PairsOf m) where
  abbrev Kept : MachineState → Type 0
  Kept m' = RowsOf m' × PairsOf m'

  written : (m' : MachineState) (x y : Task) → slice_get m.tasks t ≡ Some x → m'.tasks ≡ slice_set m.tasks t y → m'.edges ≡ m.edges
      → y.parent ≡ x.parent → is_over y.status ≡ is_over x.status → waits y.status ≡ waits x.status → y.joins ≡ x.joins → Kept m'
  written m' x y is et ee ep ed ew ej = (
    rows_by (joined m.tasks) (joined m'.tasks) (waiting m.tasks) (waiting m'.tasks) (joins_in m.tasks) (joins_in m'.tasks) m.edges m'.edges
        (ap joined et ∙ same_view is_joined m.tasks t x y is ed)
        (ap waiting et ∙ same_view is_waiting m.tasks t x y is ew)
        (ap joins_in et ∙ same_view joins_of m.tasks t x y is ej)
        ee R,
    pairs_by (length m.tasks) (length m'.tasks) (parents m.tasks) (parents m'.tasks) (joined m.tasks) (joined m'.tasks) (joins_in m.tasks) (joins_in m'.tasks) m.edges m'.edges
        (ap length et ∙ length-set m.tasks t y)
        (ap parents et ∙ same_view parent_of m.tasks t x y is ep)
        (ap joined et ∙ same_view is_joined m.tasks t x y is ed)
        (ap joins_in et ∙ same_view joins_of m.tasks t x y is ej)
        ee P,
  )

  forks : (x : Task) (g h : ℕ) → slice_get m.tasks t ≡ Some x → is_running (Some x) ≡ true
      → ((line : Line) × (fetched p x.top ≡ Some line) × (line.instr ≡ Par g h))
      → ((r : Name) → In x.top.refs (Some r) → In (task_names x) r)
      → Kept (record m {
        tasks = slice_set m.tasks t (record x { status = Waiting; top = onward x.top }) ++ child t (x.depth + 1) g x.top ∷ child t (x.depth + 1) h x.top ∷ [];
        store = m.store ++ [] ∷ [] ∷ [];
        edges = m.edges ++ edge (strand_of t x) (strand (length m.tasks) 0) ∷ edge (strand_of t x) (strand (length m.tasks + 1) 0) ∷ [];
      })
  forks x g h is run next names =
      let y : Task = record x { status = Waiting; top = onward x.top } in
      let c : Task = child t (x.depth + 1) g x.top in
      let d : Task = child t (x.depth + 1) h x.top in
      let all : List Task = slice_set m.tasks t y ++ c ∷ d ∷ [] in
      let n : ℕ = length m.tasks in
      let tells = running_tells x.status run in
      let ed : joined all ≡ joined m.tasks = fun_ext (grown_view m.tasks t x y c d is is_joined (sym tells.0) refl refl) in
      let ej : joins_in all ≡ joins_in m.tasks = fun_ext (grown_view m.tasks t x y c d is joins_of refl refl refl) in
      let here : joins_in m.tasks t ≡ x.joins = ap joins_of is in
      let same = ap (λ j. m.edges ++ edge (strand t j) (strand n 0) ∷ edge (strand t j) (strand (n + 1) 0) ∷ []) (sym here) in
      let live : joined m.tasks t ≡ false = ap is_joined is ∙ tells.0 in
      let idle : waiting m.tasks t ≡ false = ap is_waiting is ∙ tells.1 in
      let waits_now : waiting all t ≡ true = ap is_waiting (grown_at m.tasks t x y c d is) in
      let rest = wrest_fork m.tasks m.edges t x (onward x.top) x.top x.top g h is run K.tree in
      let before : List Edge = m.edges ++ edge (strand t (joins_in m.tasks t)) (strand n 0) ∷ edge (strand t (joins_in m.tasks t)) (strand (n + 1) 0) ∷ [] in
      let after : List Edge = m.edges ++ edge (strand_of t x) (strand n 0) ∷ edge (strand_of t x) (strand (n + 1) 0) ∷ [] in (
        rows_by (joined m.tasks) (joined all) (waiting all) (waiting all) (joins_in m.tasks) (joins_in all) before after ed refl ej same
            (forks_keep_rows (joined m.tasks) (waiting m.tasks) (joins_in m.tasks) m.edges R (waiting all) t n live idle waits_now rest),
        pairs_by (n + 2) (length all) (parents all) (parents all) (joined m.tasks) (joined all) (joins_in m.tasks) (joins_in all) before after
            (grown_length m.tasks t x y c d is) refl ed ej same
            (forks_keep_pairs (parents m.tasks) (joined m.tasks) (waiting m.tasks) (joins_in m.tasks) m.edges R (waiting all) t n live idle waits_now rest
            P (parents all) (got_within m.tasks t x is) (ap (λ b. cond b 0 1) (eq-eqb (n % 2) 1 K.tree.odd)) (even_next n K.tree.odd)
            (ap parent_of (grown_left m.tasks t x y c d is)) (ap parent_of (grown_right m.tasks t x y c d is)) (others x y c d is refl)),
      )
    where
      others : (x y c d : Task) → slice_get m.tasks t ≡ Some x → y.parent ≡ x.parent → (u : ℕ) → (u ≡ length m.tasks → ⊥) → (u ≡ length m.tasks + 1 → ⊥) → parents (slice_set m.tasks t y ++ c ∷ d ∷ []) u ≡ parents m.tasks u
      others x y c d is ep u nl nr = elim (cases_lt u (length m.tasks)) [
        | inl lt ↦ grown_view_front m.tasks t x y c d is parent_of ep u lt
        | inr ge ↦ ap parent_of (grown_past m.tasks t x y c d is u (omega (arith, ge, nl, nr))) ∙ sym (ap parent_of (got_past m.tasks u ge))
      ]

  joins : (parent l : ℕ) (xp xl xr : Task) (rl rr : ℤ × Option Name)
      → slice_get m.tasks parent ≡ Some xp → slice_get m.tasks l ≡ Some xl → slice_get m.tasks (l + 1) ≡ Some xr
      → xl.parent ≡ Some parent → is_left l ≡ true → is_over xl.status ≡ false → is_over xr.status ≡ false → waits xl.status ≡ false → waits xr.status ≡ false
      → ((r : Name) → rl.1 ≡ Some r → In (task_names xl) r) → ((r : Name) → rr.1 ≡ Some r → In (task_names xr) r)
      → (((t ≡ l) × (is_left t ≡ true) × (runs xl.status ≡ true) × (runs xr.status ≡ false)) ⊎ ((t ≡ l + 1) × (is_left t ≡ false) × (runs xr.status ≡ true) × (runs xl.status ≡ false)))
      → Kept (join_of m parent xp l xl xr rl rr)
  joins q l xp xl xr rl rr ip il ir pl left dl dr wl wr nl nr side =
      let yl : Task = joined_task xl in
      let yr : Task = joined_task xr in
      let yp : Task = resumed xp rl rr in
      let all : List Task = slice_set (slice_set (slice_set m.tasks l yl) (l + 1) yr) q yp in
      let I = K.tree in
      let lt : q < l = below m.tasks m.edges l q xl xr xp rl rr il ir ip pl left dl dr wl wr I in
      let a : joins_in m.tasks l ≡ xl.joins = ap joins_of il in
      let b : joins_in m.tasks (l + 1) ≡ xr.joins = ap joins_of ir in
      let c : joins_in m.tasks q ≡ xp.joins = ap joins_of ip in
      let top : slice_get all q ≡ Some yp = three_top m.tasks l q xl xr xp yl yr yp il ir ip lt in
      let at_left : slice_get all l ≡ Some yl = three_left m.tasks l q xl xr xp yl yr yp il ir ip lt in
      let at_right : slice_get all (l + 1) ≡ Some yr = three_right m.tasks l q xl xr xp yl yr yp il ir ip lt in
      let others = three_other m.tasks l q xl xr xp yl yr yp il ir ip lt in
      let jp : joins_in all q ≡ joins_in m.tasks q + 1 = ap joins_of top ∙ ap (λ k. k + 1) (sym c) in
      let after : List Edge = m.edges ++ edge (strand_of l xl) (strand q (xp.joins + 1)) ∷ edge (strand_of (l + 1) xr) (strand q (xp.joins + 1)) ∷ [] in
      let same : after ≡ m.edges ++ edge (strand l (joins_in m.tasks l)) (strand q (joins_in m.tasks q + 1)) ∷ edge (strand (l + 1) (joins_in m.tasks (l + 1))) (strand q (joins_in m.tasks q + 1)) ∷ [] =
      (λ i. m.edges ++ edge (strand l (sym a i)) (strand q (sym c i + 1)) ∷ edge (strand (l + 1) (sym b i)) (strand q (sym c i + 1)) ∷ []) in
      let T = join_tree m.tasks m.edges l q xl xr xp rl rr il ir ip pl left dl dr wl wr I in
      let live : joined all q ≡ false = joiner_live m.tasks m.edges l q xl xr xp rl rr il ir ip pl left dl dr wl wr I in
      let rises : Precedes after (strand q (joins_in m.tasks q)) (strand q (joins_in m.tasks q + 1)) =
      subst (λ k. Precedes after (strand q (joins_in m.tasks q)) (strand q k)) jp (rises_in (length all) (parents all) (joined all) (waiting all) (joins_in all) after T q (joins_in m.tasks q) (got_within all q yp top) live (let e = jp in omega (arith, e))) in
      let jd : ℕ → Bool = joined m.tasks in
      let wt : ℕ → Bool = waiting m.tasks in
      let js : ℕ → ℕ = joins_in m.tasks in
      let apart : l ≡ l + 1 → ⊥ = (λ e. omega (arith, e)) in
      let not_l : q ≡ l → ⊥ = (λ e. omega (arith, e, lt)) in
      let not_r : q ≡ l + 1 → ⊥ = (λ e. omega (arith, e, lt)) in
      let wl' : wt l ≡ false = ap is_waiting il ∙ wl in
      let wr' : wt (l + 1) ≡ false = ap is_waiting ir ∙ wr in
      let wp' : wt q ≡ true = wp m.tasks m.edges l q xl xr xp rl rr il ir ip pl left dl dr wl wr I in
      let on : waiting all q ≡ false = ap is_waiting top in
      let wrest : (u : ℕ) → (u ≡ q → ⊥) → waiting all u ≡ wt u = rest_of is_waiting l q xl xr yl yr all il ir at_left at_right others wl wr in
      let dp' : jd q ≡ false = ap is_joined ip ∙ dp m.tasks m.edges l q xl xr xp rl rr il ir ip pl left dl dr wl wr I in
      let dl' : joined all l ≡ true = ap is_joined at_left in
      let dr' : joined all (l + 1) ≡ true = ap is_joined at_right in
      let stays : (u : ℕ) → jd u ≡ true → joined all u ≡ true = over_stays l xl xr yl yr all at_left at_right (drest m.tasks m.edges l q xl xr xp rl rr il ir ip pl left dl dr wl wr I) refl refl in
      let jrest : (u : ℕ) → (u ≡ q → ⊥) → joins_in all u ≡ js u = joins_rest l q xl xr yl yr all il ir at_left at_right others refl refl in
      let up = subst (λ es. Precedes es (strand q (js q)) (strand q (js q + 1))) same rises in
      let before : List Edge = m.edges ++ edge (strand l (js l)) (strand q (js q + 1)) ∷ edge (strand (l + 1) (js (l + 1))) (strand q (js q + 1)) ∷ [] in
      let odd : l % 2 ≡ 1 = eqb-true (l % 2) 1 left in (
        rows_by (joined all) (joined all) (waiting all) (waiting all) (joins_in all) (joins_in all) before after refl refl refl same
            (joins_keep_rows jd wt js m.edges R (joined all) (waiting all) (joins_in all) l (l + 1) q apart not_l not_r wl' wr' wp' on wrest dp' dl' dr' stays jp jrest up),
        pairs_by (length m.tasks) (length all) (parents m.tasks) (parents all) (joined all) (joined all) (joins_in all) (joins_in all) before after
            (three_length m.tasks l q xl xr xp yl yr yp il ir ip lt) (fun_ext (three_view m.tasks l q xl xr xp yl yr yp il ir ip lt parent_of refl refl refl)) refl refl same
            (joins_keep_pairs (length m.tasks) (parents m.tasks) jd wt js m.edges R (joined all) (waiting all) (joins_in all) l (l + 1) q apart not_l not_r wl' wr' wp' on wrest dp' dl' dr' stays jp jrest up
            P (ap parent_of il ∙ pl) (parr m.tasks m.edges l q xl xr xp rl rr il ir ip pl left dl dr wl wr I)
            (ap is_joined il ∙ dl) (ap is_joined ir ∙ dr) (ap (λ b. cond b 0 1) left) (even_next l odd)),
      )
    where
      -- in a tree each strand of a task that hasn't joined leads to the one that it is on
      rises_in : (n : ℕ) (par : ℕ → Option ℕ) (jd wt : ℕ → Bool) (js : ℕ → ℕ) (es : List Edge) → Tree n par jd wt js es → (q j : ℕ) → q < n → jd q ≡ false → j ≤ js q → Precedes es (strand q j) (strand q (js q))
      rises_in n par jd wt js es T q j lt live le =
          (T.right (strand q j) (strand q (js q))).0
          (T.path q j q lt le lt live ∙ (ap (λ o. path_in par o q) (owner_here par jd q q live) ∙ path_itself par T.low q))

      rest_of : (view : Option Task → Bool) (l q : ℕ) (xl xr yl yr : Task) (all : List Task) → slice_get m.tasks l ≡ Some xl → slice_get m.tasks (l + 1) ≡ Some xr → slice_get all l ≡ Some yl → slice_get all (l + 1) ≡ Some yr
          → ((u : ℕ) → (u ≡ l → ⊥) → (u ≡ l + 1 → ⊥) → (u ≡ q → ⊥) → slice_get all u ≡ slice_get m.tasks u)
          → view (Some xl) ≡ view (Some yl) → view (Some xr) ≡ view (Some yr) → (u : ℕ) → (u ≡ q → ⊥) → view (slice_get all u) ≡ view (slice_get m.tasks u)
      rest_of view l q xl xr yl yr all il ir al ar others vl vr u np = elim (cases_eq u l) [
        | inl e ↦ ap (λ k. view (slice_get all k)) e ∙ (ap view al ∙ (sym vl ∙ sym (ap (λ k. view (slice_get m.tasks k)) e ∙ ap view il)))
        | inr nl ↦ elim (cases_eq u (l + 1)) [
          | inl e ↦ ap (λ k. view (slice_get all k)) e ∙ (ap view ar ∙ (sym vr ∙ sym (ap (λ k. view (slice_get m.tasks k)) e ∙ ap view ir)))
          | inr nr ↦ ap view (others u nl nr np)
        ]
      ]

      joins_rest : (l q : ℕ) (xl xr yl yr : Task) (all : List Task) → slice_get m.tasks l ≡ Some xl → slice_get m.tasks (l + 1) ≡ Some xr → slice_get all l ≡ Some yl → slice_get all (l + 1) ≡ Some yr
          → ((u : ℕ) → (u ≡ l → ⊥) → (u ≡ l + 1 → ⊥) → (u ≡ q → ⊥) → slice_get all u ≡ slice_get m.tasks u)
          → xl.joins ≡ yl.joins → xr.joins ≡ yr.joins → (u : ℕ) → (u ≡ q → ⊥) → joins_in all u ≡ joins_in m.tasks u
      joins_rest l q xl xr yl yr all il ir al ar others vl vr u np = elim (cases_eq u l) [
        | inl e ↦ ap (joins_in all) e ∙ (ap joins_of al ∙ (sym vl ∙ sym (ap (joins_in m.tasks) e ∙ ap joins_of il)))
        | inr nl ↦ elim (cases_eq u (l + 1)) [
          | inl e ↦ ap (joins_in all) e ∙ (ap joins_of ar ∙ (sym vr ∙ sym (ap (joins_in m.tasks) e ∙ ap joins_of ir)))
          | inr nr ↦ ap joins_of (others u nl nr np)
        ]
      ]

      over_stays : (l : ℕ) (xl xr yl yr : Task) (all : List Task) → slice_get all l ≡ Some yl → slice_get all (l + 1) ≡ Some yr
          → ((u : ℕ) → (u ≡ l → ⊥) → (u ≡ l + 1 → ⊥) → joined all u ≡ joined m.tasks u) → is_joined (Some yl) ≡ true → is_joined (Some yr) ≡ true
          → (u : ℕ) → joined m.tasks u ≡ true → joined all u ≡ true
      over_stays l xl xr yl yr all al ar rest vl vr u h = elim (cases_eq u l) [
        | inl e ↦ ap (joined all) e ∙ (ap is_joined al ∙ vl)
        | inr nl ↦ elim (cases_eq u (l + 1)) [ inl e ↦ ap (joined all) e ∙ (ap is_joined ar ∙ vr) | inr nr ↦ rest u nl nr ∙ h ]
      ]

  pub step_rows : Kept (step p m t)
  step_rows =
      step_cases p m t K Kept
      (R, P)
      (λ x e is run halts. (R, P))
      (λ x y store outs is run ep ed es ej names fields alters grows. written (record m { tasks = slice_set m.tasks t y; store = store; outputs = outs }) x y is refl refl ep (ap is_over es) (ap waits es) ej)
      (λ x parent e is run pp which result. written (record m { tasks = slice_set m.tasks t (ended_task x (result_of x.top)); end = e }) x (ended_task x (result_of x.top)) is refl refl refl (sym (running_tells x.status run).0) (sym (running_tells x.status run).1) refl)
      forks joins

run_rows_from : (p : ProgramText) (m : MachineState) (ts : List ℕ) → IsForkJoinState m → RowsOf m → PairsOf m → RowsOf (run_from p m ts) × PairsOf (run_from p m ts)
run_rows_from p m [] K R P = (R, P)
run_rows_from p m (t ∷ ts) K R P = let s = step_rows p m t K R P in run_rows_from p (step p m t) ts (step_is_fork_join_state p m t K) s.0 s.1

pub run_rows : (p : ProgramText) (limit : ℕ) (ts : List ℕ) → RowsOf (run p limit ts)
run_rows p limit ts = (run_rows_from p (start p limit) ts (start_is_fork_join_state p limit) (start_rows p limit) (start_pairs p limit)).0

pub run_pairs : (p : ProgramText) (limit : ℕ) (ts : List ℕ) → PairsOf (run p limit ts)
run_pairs p limit ts = (run_rows_from p (start p limit) ts (start_is_fork_join_state p limit) (start_rows p limit) (start_pairs p limit)).1

pub walks_agree : WalksAgree
walks_agree p limit ts u v bu bv =
    let m = run p limit ts in
    let A = (run_rows p limit ts).turns in
    (to_graph (joined m.tasks) (joins_in m.tasks) m.edges (turns_of m.edges) A u v, from_graph (joined m.tasks) (joins_in m.tasks) m.edges (turns_of m.edges) A u v)
