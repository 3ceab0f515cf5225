-- Places identify tasks.
use Rattle.renaming_laws.proofs.Common.{◌≡◌, ℕ, zero, suc, ◌+◌, ◌<◌, ◌≤◌, ◌%◌, ◌⊎◌, inl, inr, true, false, Some, List, [], ◌∷◌, ◌++◌, Contains, length, slice_get, slice_set, refl, ap, sym, subst, ◌∙◌, arith, eq-eqb, ne_eqb, length-append, length-set, cases_eq, cases_lt, same_Some, In, contains_from_in, got_front, got_other, got_same, got_within, in_append_cases, in_append_left, in_append_right, in_from_contains, ProgramText, Strand, Edge, Task, MachineState, Running, Waiting, onward, child, edge, parent_of, parents, ended_task, is_left, is_running, joined_task, result_of, resumed, run_from, start, step, strand, strand_of, waits, start_is_fork_join_state, step_is_fork_join_state, runs_is, step_cases, PlacesAreNames, IsForkPlace, ForkPlace}
use Rattle.hh_model.proofs.ForkJoinStates.{IsForkJoinState}

-- INVARIANTS of the edges of forks, which lead into first strands

-- a fork from this strand has been made: its task has been joined since, or waits at it
pub record HasForked (tasks : List Task) (s : Strand) : Type 0 where
  pub task : Task
  pub is : slice_get tasks s.task ≡ Some task
  pub past : (s.joins < task.joins) ⊎ ((s.joins ≡ task.joins) × (task.status ≡ Waiting))

pub record IsFork (tasks : List Task) (e : Edge) : Type 0 where
  pub later : e.source.task < e.target.task
  pub made : e.target.task < length tasks
  pub forked : HasForked tasks e.source

pub record Forks (tasks : List Task) (edges : List Edge) : Type 0 where
  pub forks : (e : Edge) → In edges e → e.target.joins ≡ 0 → IsFork tasks e
  pub one_source : (e f : Edge) → In edges e → In edges f → e.target.joins ≡ 0 → e.target ≡ f.target → e.source ≡ f.source
  pub one_child : (e f : Edge) → In edges e → In edges f → e.target.joins ≡ 0 → f.target.joins ≡ 0 → e.source ≡ f.source → is_left e.target.task ≡ is_left f.target.task → e.target.task ≡ f.target.task
  pub each : (t : ℕ) → 0 < t → t < length tasks → (e : Edge) × In edges e × (e.target ≡ strand t 0)

-- as many other tasks, of which those that had forked still have
with_tasks : (tasks tasks' : List Task) (edges : List Edge) → length tasks' ≡ length tasks → ((s : Strand) → HasForked tasks s → HasForked tasks' s) → Forks tasks edges → Forks tasks' edges
with_tasks tasks tasks' edges same keeps F = record {
  forks = λ e i z.
      let k = F.forks e i z in
      let lt : e.target.task < length tasks = k.made in
      record { later = k.later; made = omega arith; forked = keeps e.source k.forked };
  one_source = F.one_source;
  one_child = F.one_child;
  each = λ t pos lt. F.each t pos (omega arith);
}

-- a task that doesn't wait becomes another, joined at least as often; or one that is joined once more
set_forked : (tasks : List Task) (t : ℕ) (x y : Task) → slice_get tasks t ≡ Some x → ((x.status ≡ Waiting → ⊥) × (x.joins ≤ y.joins)) ⊎ (x.joins < y.joins) → (s : Strand) → HasForked tasks s → HasForked (slice_set tasks t y) s
set_forked tasks t x y is why s H = elim (cases_eq s.task t) [
  | inr other ↦ record { task = H.task; is = got_other tasks t s.task y other ∙ H.is; past = H.past }
  | inl here ↦
      let same : x ≡ H.task = same_Some x H.task (sym is ∙ (ap (slice_get tasks) (sym here) ∙ H.is)) in
      record { task = y; is = ap (slice_get (slice_set tasks t y)) here ∙ got_same tasks t x y is; past = inl (more same) }
]
  where
    more : x ≡ H.task → s.joins < y.joins
    more same =
        let joins : x.joins ≡ H.task.joins = ap (λ (w : Task). w.joins) same in
        elim why [
          | inr gt ↦ elim H.past [ inl lt ↦ omega arith | inr at ↦ let eq : s.joins ≡ H.task.joins = at.0 in omega arith ]
          | inl stays ↦
              let le : x.joins ≤ y.joins = stays.1 in
              elim H.past [ inl lt ↦ omega arith | inr at ↦ absurd (stays.0 (ap (λ (w : Task). w.status) same ∙ at.1)) ]
        ]

never_waits : (x : Task) → is_running (Some x) ≡ true → x.status ≡ Waiting → ⊥
never_waits x run w = let r : x.status ≡ Running = runs_is x.status run in let c : Running ≡ Waiting = sym r ∙ w in cc

not_waiting : (x : Task) → waits x.status ≡ false → x.status ≡ Waiting → ⊥
not_waiting x rests w = let c : false ≡ true = sym rests ∙ ap waits w in cc

module _ (tasks : List Task) (edges : List Edge) (t : ℕ) (x : Task) (is : slice_get tasks t ≡ Some x) (run : is_running (Some x) ≡ true) (odd : length tasks % 2 ≡ 1) (F : Forks tasks edges)
    (w : Task) (joins : w.joins ≡ x.joins) (waiting : w.status ≡ Waiting) (a b : Task) where
  abbrev n : ℕ
  n = length tasks

  abbrev after : List Task
  after = slice_set tasks t w ++ a ∷ b ∷ []

  abbrev left : Edge
  left = edge (strand_of t x) (strand n 0)

  abbrev right : Edge
  right = edge (strand_of t x) (strand (n + 1) 0)

  abbrev more : List Edge
  more = edges ++ left ∷ right ∷ []

  low : t < n
  low = got_within tasks t x is

  long : length after ≡ n + 2
  long = let a' = length-append (slice_set tasks t w) (a ∷ b ∷ []) in let b' = length-set tasks t w in omega (arith, a', b')

  task_after : slice_get after t ≡ Some w
  task_after = got_front (slice_set tasks t w) (a ∷ b ∷ []) t (let b' = length-set tasks t w in let lt = low in omega (arith, b', lt)) ∙ got_same tasks t x w is

  keeps : (s : Strand) → HasForked tasks s → HasForked after s
  keeps s H =
      let G : HasForked (slice_set tasks t w) s = set_forked tasks t x w is (inl (never_waits x run, (let j = joins in omega (arith, j)))) s H in
      record { task = G.task; is = got_front (slice_set tasks t w) (a ∷ b ∷ []) s.task (got_within (slice_set tasks t w) s.task G.task G.is) ∙ G.is; past = G.past }

  -- an old edge, or one of the two
  cases : (e : Edge) → In more e → In edges e ⊎ ((e.source ≡ strand_of t x) × ((e.target ≡ strand n 0) ⊎ (e.target ≡ strand (n + 1) 0)))
  cases e i = elim (in_append_cases edges (left ∷ right ∷ []) e i) [
    | inl old ↦ inl old
    | inr new ↦ elim new [
      | inl q ↦ inr (ap (λ (z : Edge). z.source) (sym q), inl (ap (λ (z : Edge). z.target) (sym q)))
      | inr rest ↦ elim rest [
        | inl q ↦ inr (ap (λ (z : Edge). z.source) (sym q), inr (ap (λ (z : Edge). z.target) (sym q)))
        | inr none ↦ absurd none
      ]
    ]
  ]

  task_of : (e : Edge) → (e.target ≡ strand n 0) ⊎ (e.target ≡ strand (n + 1) 0) → (e.target.task ≡ n) ⊎ (e.target.task ≡ n + 1)
  task_of e (inl q) = inl (ap (λ (z : Strand). z.task) q)
  task_of e (inr q) = inr (ap (λ (z : Strand). z.task) q)

  -- no old fork is from the strand that forks now
  old_other : (e : Edge) → In edges e → e.target.joins ≡ 0 → e.source ≡ strand_of t x → ⊥
  old_other e i z q =
      let H = (F.forks e i z).forked in
      let at : e.source.task ≡ t = ap (λ (s : Strand). s.task) q in
      let js : e.source.joins ≡ x.joins = ap (λ (s : Strand). s.joins) q in
      let same : x ≡ H.task = same_Some x H.task (sym is ∙ (ap (slice_get tasks) (sym at) ∙ H.is)) in
      let joined : x.joins ≡ H.task.joins = ap (λ (y : Task). y.joins) same in
      elim H.past [ inl lt ↦ omega arith | inr v ↦ never_waits x run (ap (λ (y : Task). y.status) same ∙ v.1) ]

  new_fork : (e : Edge) → e.source ≡ strand_of t x → (e.target.task ≡ n) ⊎ (e.target.task ≡ n + 1) → IsFork after e
  new_fork e q at =
      let st : e.source.task ≡ t = ap (λ (s : Strand). s.task) q in
      let sj : e.source.joins ≡ x.joins = ap (λ (s : Strand). s.joins) q in
      let lt : t < n = low in
      let ln : length after ≡ n + 2 = long in
      record {
        later = elim at [ inl l ↦ omega arith | inr r ↦ omega arith ];
        made = elim at [ inl l ↦ omega arith | inr r ↦ omega arith ];
        forked = record { task = w; is = ap (slice_get after) st ∙ task_after; past = inr (sj ∙ sym joins, waiting) };
      }

  sides_differ : is_left n ≡ is_left (n + 1) → ⊥
  sides_differ q =
      let l : is_left n ≡ true = eq-eqb (n % 2) 1 odd in
      let r : is_left (n + 1) ≡ false = ne_eqb ((n + 1) % 2) 1 (λ o. omega (arith, odd, o)) in
      let c : true ≡ false = sym l ∙ (q ∙ r) in
      cc

  pub forked_on : Forks after more
  forked_on = record {
    forks = λ e i z. elim (cases e i) [
      | inl old ↦
          let k = F.forks e old z in
          let lt : e.target.task < n = k.made in
          let ln : length after ≡ n + 2 = long in
          record { later = k.later; made = omega arith; forked = keeps e.source k.forked }
      | inr new ↦ new_fork e new.0 (task_of e new.1)
    ];
    one_source = λ e f i j z q. elim (cases e i) [
      | inl old ↦ elim (cases f j) [
        | inl old' ↦ F.one_source e f old old' z q
        | inr new' ↦
            let lt : e.target.task < n = (F.forks e old z).made in
            let same : e.target.task ≡ f.target.task = ap (λ (s : Strand). s.task) q in
            absurd (elim (task_of f new'.1) [ inl l ↦ omega arith | inr r ↦ omega arith ])
      ]
      | inr new ↦ elim (cases f j) [
        | inl old' ↦
            let lt : f.target.task < n = (F.forks f old' (ap (λ (s : Strand). s.joins) (sym q) ∙ z)).made in
            let same : e.target.task ≡ f.target.task = ap (λ (s : Strand). s.task) q in
            absurd (elim (task_of e new.1) [ inl l ↦ omega arith | inr r ↦ omega arith ])
        | inr new' ↦ new.0 ∙ sym new'.0
      ]
    ];
    one_child = λ e f i j z v q side. elim (cases e i) [
      | inl old ↦ elim (cases f j) [
        | inl old' ↦ F.one_child e f old old' z v q side
        | inr new' ↦ absurd (old_other e old z (q ∙ new'.0))
      ]
      | inr new ↦ elim (cases f j) [
        | inl old' ↦ absurd (old_other f old' v (sym q ∙ new.0))
        | inr new' ↦ elim (task_of e new.1) [
          | inl l ↦ elim (task_of f new'.1) [
            | inl l' ↦ l ∙ sym l'
            | inr r' ↦ absurd (sides_differ (ap is_left (sym l) ∙ (side ∙ ap is_left r')))
          ]
          | inr r ↦ elim (task_of f new'.1) [
            | inl l' ↦ absurd (sides_differ (ap is_left (sym l') ∙ (sym side ∙ ap is_left r)))
            | inr r' ↦ r ∙ sym r'
          ]
        ]
      ]
    ];
    each = λ u pos lt. elim (cases_lt u n) [
      | inl old ↦ (let k = F.each u pos old in (k.0, in_append_left edges (left ∷ right ∷ []) k.0 k.1, k.2))
      | inr ge ↦ elim (cases_eq u n) [
        | inl l ↦ (left, in_append_right edges (left ∷ right ∷ []) left (inl refl), ap (λ k. strand k 0) (sym l))
        | inr o ↦ (let r : u ≡ n + 1 = (let ln = long in omega (arith, ln)) in (right, in_append_right edges (left ∷ right ∷ []) right (inr (inl refl)), ap (λ k. strand k 0) (sym r)))
      ]
    ];
  }

-- edges of a join lead into no first strand
joined_on : (tasks : List Task) (edges : List Edge) (d e : Edge) → (d.target.joins ≡ 0 → ⊥) → (e.target.joins ≡ 0 → ⊥) → Forks tasks edges → Forks tasks (edges ++ d ∷ e ∷ [])
joined_on tasks edges d e later later' F = record {
  forks = λ f i z. F.forks f (old f i z) z;
  one_source = λ f g i j z q. F.one_source f g (old f i z) (old g j (ap (λ (s : Strand). s.joins) (sym q) ∙ z)) z q;
  one_child = λ f g i j z v q side. F.one_child f g (old f i z) (old g j v) z v q side;
  each = λ t pos lt. (let k = F.each t pos lt in (k.0, in_append_left edges (d ∷ e ∷ []) k.0 k.1, k.2));
}
  where
    old : (f : Edge) → In (edges ++ d ∷ e ∷ []) f → f.target.joins ≡ 0 → In edges f
    old f i z = elim (in_append_cases edges (d ∷ e ∷ []) f i) [
      | inl here ↦ here
      | inr new ↦ elim new [
        | inl q ↦ absurd (later (ap (λ (k : Edge). k.target.joins) q ∙ z))
        | inr rest ↦ elim rest [ inl q ↦ absurd (later' (ap (λ (k : Edge). k.target.joins) q ∙ z)) | inr none ↦ absurd none ]
      ]
    ]

step_forks : (p : ProgramText) (m : MachineState) (t : ℕ) → IsForkJoinState m → Forks m.tasks m.edges → Forks (step p m t).tasks (step p m t).edges
step_forks p m t K F =
    step_cases p m t K (λ m'. Forks m'.tasks m'.edges) F (λ x e is run why. F)
    (λ x y store outs is run ep ed es ej names fields alters grows.
    with_tasks m.tasks (slice_set m.tasks t y) m.edges (length-set m.tasks t y) (set_forked m.tasks t x y is (inl (never_waits x run, (let j = ej in omega (arith, j))))) F)
    (λ x parent e is run pp which result.
    with_tasks m.tasks (slice_set m.tasks t (ended_task x (result_of x.top))) m.edges (length-set m.tasks t (ended_task x (result_of x.top)))
    (set_forked m.tasks t x (ended_task x (result_of x.top)) is (inl (never_waits x run, omega arith))) F)
    (λ x g h is run next top.
    forked_on m.tasks m.edges t x is run K.tree.odd F (record x { status = Waiting; top = onward x.top }) refl refl (child t (x.depth + 1) g x.top) (child t (x.depth + 1) h x.top))
    (λ parent l xp xl xr rl rr ip il ir pl left dl dr wl wr nl nr side.
    let one = slice_set m.tasks l (joined_task xl) in
    let two = slice_set one (l + 1) (joined_task xr) in
    let above : parent < l = K.tree.low l parent (parent_is m l xl parent il pl) in
    let ir' : slice_get one (l + 1) ≡ Some xr = got_other m.tasks l (l + 1) (joined_task xl) (λ q. omega arith) ∙ ir in
    let ip' : slice_get two parent ≡ Some xp = got_other one (l + 1) parent (joined_task xr) (λ q. omega (arith, above)) ∙ (got_other m.tasks l parent (joined_task xl) (λ q. omega (arith, above)) ∙ ip) in
    joined_on (slice_set two parent (resumed xp rl rr)) m.edges (edge (strand_of l xl) (strand parent (xp.joins + 1))) (edge (strand_of (l + 1) xr) (strand parent (xp.joins + 1))) (λ z. omega arith) (λ z. omega arith)
    (with_tasks two (slice_set two parent (resumed xp rl rr)) m.edges (length-set two parent (resumed xp rl rr)) (set_forked two parent xp (resumed xp rl rr) ip' (inr (omega arith)))
    (with_tasks one two m.edges (length-set one (l + 1) (joined_task xr)) (set_forked one (l + 1) xr (joined_task xr) ir' (inl (not_waiting xr wr, omega arith)))
    (with_tasks m.tasks one m.edges (length-set m.tasks l (joined_task xl)) (set_forked m.tasks l xl (joined_task xl) il (inl (not_waiting xl wl, omega arith))) F))))
  where
    parent_is : (m : MachineState) (l : ℕ) (xl : Task) (parent : ℕ) → slice_get m.tasks l ≡ Some xl → xl.parent ≡ Some parent → parents m.tasks l ≡ Some parent
    parent_is m l xl parent il pl = ap parent_of il ∙ pl

run_forks : (p : ProgramText) (m : MachineState) (ts : List ℕ) → IsForkJoinState m → Forks m.tasks m.edges → Forks (run_from p m ts).tasks (run_from p m ts).edges
run_forks p m [] K F = F
run_forks p m (t ∷ ts) K F = run_forks p (step p m t) ts (step_is_fork_join_state p m t K) (step_forks p m t K F)

start_forks : (p : ProgramText) (limit : ℕ) → Forks (start p limit).tasks (start p limit).edges
start_forks p limit = record {
  forks = λ e i z. absurd i;
  one_source = λ e f i j z q. absurd i;
  one_child = λ e f i j z v q side. absurd i;
  each = λ t pos lt. absurd (omega arith);
}

-- POSITIONS

module _ (tasks : List Task) (edges : List Edge) (F : Forks tasks edges) where
  into : (e : Edge) (t : ℕ) → In edges e → e.target ≡ strand t 0 → IsFork tasks e
  into e t i q = F.forks e i (ap (λ (s : Strand). s.joins) q)

  each_by : (bound t : ℕ) → t < bound → t < length tasks → (place : ForkPlace) × IsForkPlace edges place t
  each_by zero t lt made = absurd (omega arith)
  each_by (suc bound) zero lt made = ([], refl)
  each_by (suc bound) (suc t) lt made =
      let k = F.each (suc t) (omega arith) made in
      let fork = into k.0 (suc t) k.1 k.2 in
      let at : k.0.target.task ≡ suc t = ap (λ (s : Strand). s.task) k.2 in
      let less : k.0.source.task < k.0.target.task = fork.later in
      let above = each_by bound k.0.source.task (omega arith) (omega (arith, less, at, made)) in
      let same : k.0 ≡ edge (strand k.0.source.task k.0.source.joins) (strand (suc t) 0) = ap (λ s. edge k.0.source s) k.2 in (
        (k.0.source.joins, is_left (suc t)) ∷ above.0,
        (k.0.source.task, above.1, contains_from_in edges _ (subst (In edges) same k.1), refl),
      )

  fork_in : (p k t : ℕ) → Contains edges (edge (strand p k) (strand t 0)) → In edges (edge (strand p k) (strand t 0))
  fork_in p k t c = in_from_contains edges (edge (strand p k) (strand t 0)) c

  never_first : (p k t : ℕ) → In edges (edge (strand p k) (strand t 0)) → t ≡ 0 → ⊥
  never_first p k t i z = let f = F.forks (edge (strand p k) (strand t 0)) i refl in let lt : p < t = f.later in omega arith

  one_place : (place other : ForkPlace) (t : ℕ) → IsForkPlace edges place t → IsForkPlace edges other t → place ≡ other
  one_place [] [] t a b = refl
  one_place [] (y ∷ ys) t a b = absurd (never_first b.0 y.0 t (fork_in b.0 y.0 t b.2) a)
  one_place (x ∷ xs) [] t a b = absurd (never_first a.0 x.0 t (fork_in a.0 x.0 t a.2) b)
  one_place (x ∷ xs) (y ∷ ys) t a b =
      let same : strand a.0 x.0 ≡ strand b.0 y.0 = F.one_source (edge (strand a.0 x.0) (strand t 0)) (edge (strand b.0 y.0) (strand t 0)) (fork_in a.0 x.0 t a.2) (fork_in b.0 y.0 t b.2) refl refl in
      let parent : a.0 ≡ b.0 = ap (λ (s : Strand). s.task) same in
      let joins : x.0 ≡ y.0 = ap (λ (s : Strand). s.joins) same in
      let side : x.1 ≡ y.1 = sym a.3 ∙ b.3 in
      let above : xs ≡ ys = one_place xs ys b.0 (subst (IsForkPlace edges xs) parent a.1) b.1 in
      λ i. (joins i, side i) ∷ above i

  one_task : (place : ForkPlace) (t u : ℕ) → IsForkPlace edges place t → IsForkPlace edges place u → t ≡ u
  one_task [] t u a b = a ∙ sym b
  one_task (x ∷ xs) t u a b =
      let parent : a.0 ≡ b.0 = one_task xs a.0 b.0 a.1 b.1 in
      F.one_child (edge (strand a.0 x.0) (strand t 0)) (edge (strand b.0 x.0) (strand u 0)) (fork_in a.0 x.0 t a.2) (fork_in b.0 x.0 u b.2) refl refl (ap (λ q. strand q x.0) parent) (a.3 ∙ sym b.3)

pub places_are_names : PlacesAreNames
places_are_names p limit ts =
    let F = run_forks p (start p limit) ts (start_is_fork_join_state p limit) (start_forks p limit) in
    let m = run_from p (start p limit) ts in record {
      each = λ t lt. each_by m.tasks m.edges F (length m.tasks) t lt lt;
      one = one_place m.tasks m.edges F;
      apart = one_task m.tasks m.edges F;
    }
