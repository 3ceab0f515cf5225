-- Every step keeps the tree and the store.
use Rattle.hh_model.proofs.Common.{◌≡◌, ℕ, ℤ, ◌+◌, ◌-◌, ◌<◌, ◌≤◌, Bool, true, false, Option, Some, None, List, [], ◌∷◌, ◌++◌, length, set, slice_get, slice_set, inl, inr, refl, ap, sym, subst, ◌∙◌, arith, length-append, length-set, append_assoc, cases_lt, cases_eq, cond-true, false≢true, fun_ext, got_same, got_other, got_front, got_back, got_past, got_within, same_view, view_step, Name, Edge, Frame, TaskStatus, Running, Waiting, Ended, Joined, Task, runs, waits, is_over, result_in, is_running, is_waiting, is_joined, parent_of, parents, joined, strand, strand_of, edge, sibling, is_left, child, joined_task, resumed}
use Rattle.hh_model.proofs.Tree.{Tree}
use Rattle.hh_model.proofs.Joins.{joins_keep}
use Rattle.hh_model.proofs.Forks.{forks_keep}
pub use Rattle.hh_model.specs.Tree.{waiting, joins_of, joins_in, TreeOf}

-- the same tree by equal views
tree_by : (tasks : List Task) (n : ℕ) (par : ℕ → Option ℕ) (jd wt : ℕ → Bool) (js : ℕ → ℕ) (es es' : List Edge)
    → length tasks ≡ n → parents tasks ≡ par → joined tasks ≡ jd → waiting tasks ≡ wt → joins_in tasks ≡ js → es' ≡ es → Tree n par jd wt js es → TreeOf tasks es'
tree_by tasks n par jd wt js es es' en ep ed ew ej ee I =
    subst (λ x. Tree x (parents tasks) (joined tasks) (waiting tasks) (joins_in tasks) es') (sym en)
    (subst (λ f. Tree n f (joined tasks) (waiting tasks) (joins_in tasks) es') (sym ep)
    (subst (λ f. Tree n par f (waiting tasks) (joins_in tasks) es') (sym ed)
    (subst (λ f. Tree n par jd f (joins_in tasks) es') (sym ew)
    (subst (λ f. Tree n par jd wt f es') (sym ej)
    (subst (λ x. Tree n par jd wt js x) (sym ee) I)))))

-- a task that is written and keeps its position in the tree
pub same_tree : (tasks : List Task) (edges : List Edge) (t : ℕ) (x y : Task) → slice_get tasks t ≡ Some x
    → parent_of (Some y) ≡ parent_of (Some x) → is_joined (Some y) ≡ is_joined (Some x) → is_waiting (Some y) ≡ is_waiting (Some x) → joins_of (Some y) ≡ joins_of (Some x)
    → TreeOf tasks edges → TreeOf (slice_set tasks t y) edges
same_tree tasks edges t x y is p d w j I =
    tree_by (slice_set tasks t y) (length tasks) (parents tasks) (joined tasks) (waiting tasks) (joins_in tasks) edges edges
    (length-set tasks t y) (same_view parent_of tasks t x y is p) (same_view is_joined tasks t x y is d) (same_view is_waiting tasks t x y is w) (same_view joins_of tasks t x y is j) refl I

-- what follows from a status
pub running_tells : (s : TaskStatus) → runs s ≡ true → (is_over s ≡ false) × (waits s ≡ false)
running_tells Running h = (refl, refl)
running_tells Waiting h = absurd (false≢true h)
running_tells (Ended k n) h = absurd (false≢true h)
running_tells Joined h = absurd (false≢true h)

-- a running task has neither joined nor waits
pub runs_live : {o : Option Task} (x : Task) → o ≡ Some x → x.status ≡ Running → is_joined o ≡ false
runs_live x is run = ap is_joined is ∙ ap is_over run

pub runs_idle : {o : Option Task} (x : Task) → o ≡ Some x → x.status ≡ Running → is_waiting o ≡ false
runs_idle x is run = ap is_waiting is ∙ ap waits run

pub ended_tells : (s : TaskStatus) (r : ℤ × Option Name) → result_in s ≡ Some r → (is_over s ≡ false) × (waits s ≡ false)
ended_tells Running r h = absurd cc
ended_tells Waiting r h = absurd cc
ended_tells (Ended k n) r h = (refl, refl)
ended_tells Joined r h = absurd cc

-- a task that is written, and two that are added
module _ (tasks : List Task) (t : ℕ) (x y c d : Task) (is : slice_get tasks t ≡ Some x) where
  abbrev pub grown : List Task
  grown = slice_set tasks t y ++ c ∷ d ∷ []

  pub grown_length : length grown ≡ length tasks + 2
  grown_length = length-append (set tasks t y) (c ∷ d ∷ []) ∙ ap (λ n. n + 2) (length-set tasks t y)

  pub grown_front : (u : ℕ) → u < length tasks → slice_get grown u ≡ slice_get (set tasks t y) u
  grown_front u lt = got_front (set tasks t y) (c ∷ d ∷ []) u (omega (arith, length-set tasks t y))

  pub grown_left : slice_get grown (length tasks) ≡ Some c
  grown_left = ap (slice_get grown) (let e : length tasks ≡ length (set tasks t y) + 0 = omega (arith, length-set tasks t y) in e) ∙ got_back (set tasks t y) (c ∷ d ∷ []) 0

  pub grown_right : slice_get grown (length tasks + 1) ≡ Some d
  grown_right = ap (slice_get grown) (let e : length tasks + 1 ≡ length (set tasks t y) + 1 = omega (arith, length-set tasks t y) in e) ∙ got_back (set tasks t y) (c ∷ d ∷ []) 1

  pub grown_past : (u : ℕ) → length tasks + 2 ≤ u → slice_get grown u ≡ None
  grown_past u le = got_past grown u (omega (arith, grown_length))

  pub grown_at : slice_get grown t ≡ Some y
  grown_at = grown_front t (got_within tasks t x is) ∙ got_same tasks t x y is

  pub grown_other : (u : ℕ) → u < length tasks → (u ≡ t → ⊥) → slice_get grown u ≡ slice_get tasks u
  grown_other u lt ne = grown_front u lt ∙ got_other tasks t u y ne

  module _ {B : Type 0} (view : Option Task → B) (ey : view (Some y) ≡ view (Some x)) where
    pub grown_view_front : (u : ℕ) → u < length tasks → view (slice_get grown u) ≡ view (slice_get tasks u)
    grown_view_front u lt = ap view (grown_front u lt) ∙ view_step view tasks t x y is ey u

    pub grown_view : view (Some c) ≡ view None → view (Some d) ≡ view None → (u : ℕ) → view (slice_get grown u) ≡ view (slice_get tasks u)
    grown_view ec ed u = elim (cases_lt u (length tasks)) [
      | inl lt ↦ grown_view_front u lt
      | inr ge ↦
          let past : slice_get tasks u ≡ None = got_past tasks u ge in
          elim (cases_eq u (length tasks)) [
            | inl e ↦ ap (λ k. view (slice_get grown k)) e ∙ (ap view grown_left ∙ (ec ∙ ap view (sym past)))
            | inr ne ↦ elim (cases_eq u (length tasks + 1)) [
              | inl e ↦ ap (λ k. view (slice_get grown k)) e ∙ (ap view grown_right ∙ (ed ∙ ap view (sym past)))
              | inr ne' ↦ ap view (grown_past u (omega arith)) ∙ ap view (sym past)
            ]
          ]
    ]

-- a fork
module _ (tasks : List Task) (edges : List Edge) (t : ℕ) (x : Task) (f fl fr : Frame) (gl gr : ℕ) (is : slice_get tasks t ≡ Some x) (run : is_running (Some x) ≡ true) (I : TreeOf tasks edges) where
  abbrev y : Task
  y = record x { status = Waiting; top = f }

  abbrev cl : Task
  cl = child t (x.depth + 1) gl fl

  abbrev cr : Task
  cr = child t (x.depth + 1) gr fr

  abbrev all : List Task
  all = grown tasks t x y cl cr is

  abbrev n : ℕ
  n = length tasks

  tells : (is_over x.status ≡ false) × (waits x.status ≡ false)
  tells = running_tells x.status run

  sum_edges : (j : ℕ) → j ≡ x.joins → edges ++ edge (strand_of t x) (strand n 0) ∷ edge (strand_of t x) (strand (n + 1) 0) ∷ [] ≡ (edges ++ edge (strand t j) (strand n 0) ∷ []) ++ edge (strand t j) (strand (n + 1) 0) ∷ []
  sum_edges j e =
      ap (λ k. edges ++ edge (strand t k) (strand n 0) ∷ edge (strand t k) (strand (n + 1) 0) ∷ []) (sym e)
      ∙ sym (append_assoc edges (edge (strand t j) (strand n 0) ∷ []) (edge (strand t j) (strand (n + 1) 0) ∷ []))

  past : (k : ℕ) → n ≤ k → slice_get tasks k ≡ None
  past k le = got_past tasks k le

  abbrev es2 : List Edge
  es2 = (edges ++ edge (strand t (joins_in tasks t)) (strand n 0) ∷ []) ++ edge (strand t (joins_in tasks t)) (strand (n + 1) 0) ∷ []

  pub wrest_fork : (u : ℕ) → (u ≡ t → ⊥) → waiting all u ≡ waiting tasks u
  wrest_fork u ne = elim (cases_lt u n) [
    | inl lt ↦ ap is_waiting (grown_other tasks t x y cl cr is u lt ne)
    | inr ge ↦ elim (cases_eq u n) [
      | inl e ↦ ap (waiting all) e ∙ (ap is_waiting (grown_left tasks t x y cl cr is) ∙ ap is_waiting (sym (past u ge)))
      | inr ne1 ↦ elim (cases_eq u (n + 1)) [
        | inl e ↦ ap (waiting all) e ∙ (ap is_waiting (grown_right tasks t x y cl cr is) ∙ ap is_waiting (sym (past u ge)))
        | inr ne2 ↦ ap is_waiting (grown_past tasks t x y cl cr is u (omega arith)) ∙ ap is_waiting (sym (past u ge))
      ]
    ]
  ]

  grows : Tree (n + 2) (parents all) (joined tasks) (waiting all) (joins_in tasks) es2
  grows =
      forks_keep n (parents tasks) (joined tasks) (waiting tasks) (joins_in tasks) edges I (parents all) (waiting all) t
      (got_within tasks t x is) (ap is_joined is ∙ tells.0) (ap is_waiting is ∙ tells.1)
      (ap is_joined (past n (omega arith))) (ap is_joined (past (n + 1) (omega arith))) (ap joins_of (past n (omega arith))) (ap joins_of (past (n + 1) (omega arith)))
      (ap parent_of (grown_left tasks t x y cl cr is)) (ap parent_of (grown_right tasks t x y cl cr is))
      (λ u lt. grown_view_front tasks t x y cl cr is parent_of refl u lt)
      (λ u le. ap parent_of (grown_past tasks t x y cl cr is u le))
      (ap is_waiting (grown_at tasks t x y cl cr is))
      wrest_fork

  pub fork_tree : TreeOf all (edges ++ edge (strand_of t x) (strand n 0) ∷ edge (strand_of t x) (strand (n + 1) 0) ∷ [])
  fork_tree =
      tree_by all (n + 2) (parents all) (joined tasks) (waiting all) (joins_in tasks) es2 _
      (grown_length tasks t x y cl cr is) refl
      (fun_ext (grown_view tasks t x y cl cr is is_joined (sym tells.0) refl refl))
      refl
      (fun_ext (grown_view tasks t x y cl cr is joins_of refl refl refl))
      (sum_edges (joins_in tasks t) (ap joins_of is)) grows

-- three tasks are written
module _ (tasks : List Task) (l p : ℕ) (xl xr xp yl yr yp : Task) (il : slice_get tasks l ≡ Some xl) (ir : slice_get tasks (l + 1) ≡ Some xr) (ip : slice_get tasks p ≡ Some xp) (lt : p < l) where
  abbrev t1 : List Task
  t1 = slice_set tasks l yl

  abbrev t2 : List Task
  t2 = slice_set t1 (l + 1) yr

  abbrev t3 : List Task
  t3 = slice_set t2 p yp

  ir1 : slice_get t1 (l + 1) ≡ Some xr
  ir1 = got_other tasks l (l + 1) yl (λ e. omega arith) ∙ ir

  ip2 : slice_get t2 p ≡ Some xp
  ip2 = got_other t1 (l + 1) p yr (λ e. omega arith) ∙ (got_other tasks l p yl (λ e. omega arith) ∙ ip)

  pub three_top : slice_get t3 p ≡ Some yp
  three_top = got_same t2 p xp yp ip2

  pub three_left : slice_get t3 l ≡ Some yl
  three_left = got_other t2 p l yp (λ e. omega arith) ∙ (got_other t1 (l + 1) l yr (λ e. omega arith) ∙ got_same tasks l xl yl il)

  pub three_right : slice_get t3 (l + 1) ≡ Some yr
  three_right = got_other t2 p (l + 1) yp (λ e. omega arith) ∙ got_same t1 (l + 1) xr yr ir1

  pub three_other : (u : ℕ) → (u ≡ l → ⊥) → (u ≡ l + 1 → ⊥) → (u ≡ p → ⊥) → slice_get t3 u ≡ slice_get tasks u
  three_other u nl nr np = got_other t2 p u yp np ∙ (got_other t1 (l + 1) u yr nr ∙ got_other tasks l u yl nl)

  pub three_length : length t3 ≡ length tasks
  three_length = length-set t2 p yp ∙ (length-set t1 (l + 1) yr ∙ length-set tasks l yl)

  pub three_view : {B : Type 0} (view : Option Task → B) → view (Some yl) ≡ view (Some xl) → view (Some yr) ≡ view (Some xr) → view (Some yp) ≡ view (Some xp)
      → (u : ℕ) → view (slice_get t3 u) ≡ view (slice_get tasks u)
  three_view view el er ep u =
      view_step view t2 p xp yp ip2 ep u ∙ (view_step view t1 (l + 1) xr yr ir1 er u ∙ view_step view tasks l xl yl il el u)

-- a join
module _ (tasks : List Task) (edges : List Edge) (l p : ℕ) (xl xr xp : Task) (rl rr : ℤ × Option Name)
    (il : slice_get tasks l ≡ Some xl) (ir : slice_get tasks (l + 1) ≡ Some xr) (ip : slice_get tasks p ≡ Some xp)
    (pl : xl.parent ≡ Some p) (left : is_left l ≡ true)
    (dl : is_over xl.status ≡ false) (dr : is_over xr.status ≡ false) (wl : waits xl.status ≡ false) (wr : waits xr.status ≡ false)
    (I : TreeOf tasks edges) where
  pub parl : parents tasks l ≡ Some p
  parl = ap parent_of il ∙ pl

  pub below : p < l
  below = I.low l p parl

  pub sib : sibling l ≡ l + 1
  sib = cond-true (is_left l) (l + 1) (l - 1) left

  pub parr : parents tasks (l + 1) ≡ Some p
  parr = ap (parents tasks) (sym sib) ∙ I.pairs l p parl

  abbrev yl : Task
  yl = joined_task xl

  abbrev yr : Task
  yr = joined_task xr

  abbrev yp : Task
  yp = resumed xp rl rr

  abbrev after : List Task
  after = slice_set (slice_set (slice_set tasks l yl) (l + 1) yr) p yp

  pub wp : waiting tasks p ≡ true
  wp = I.waits l p parl (ap is_joined il ∙ dl)

  pub dp : is_over xp.status ≡ false
  dp = ap is_joined (sym ip) ∙ I.apart p wp

  abbrev es_joined : List Edge
  es_joined = (edges ++ edge (strand l (joins_in tasks l)) (strand p (joins_in tasks p + 1)) ∷ []) ++ edge (strand (l + 1) (joins_in tasks (l + 1))) (strand p (joins_in tasks p + 1)) ∷ []

  sum_join_edges : (a b c : ℕ) → a ≡ xl.joins → b ≡ xr.joins → c ≡ xp.joins
      → edges ++ edge (strand_of l xl) (strand p (xp.joins + 1)) ∷ edge (strand_of (l + 1) xr) (strand p (xp.joins + 1)) ∷ []
      ≡ (edges ++ edge (strand l a) (strand p (c + 1)) ∷ []) ++ edge (strand (l + 1) b) (strand p (c + 1)) ∷ []
  sum_join_edges a b c ea eb ec =
      let swap : edges ++ edge (strand l a) (strand p (c + 1)) ∷ edge (strand (l + 1) b) (strand p (c + 1)) ∷ [] ≡ edges ++ edge (strand_of l xl) (strand p (xp.joins + 1)) ∷ edge (strand_of (l + 1) xr) (strand p (xp.joins + 1)) ∷ [] =
      λ i. edges ++ edge (strand l (ea i)) (strand p (ec i + 1)) ∷ edge (strand (l + 1) (eb i)) (strand p (ec i + 1)) ∷ [] in
      sym swap ∙ sym (append_assoc edges (edge (strand l a) (strand p (c + 1)) ∷ []) (edge (strand (l + 1) b) (strand p (c + 1)) ∷ []))

  pub drest : (u : ℕ) → (u ≡ l → ⊥) → (u ≡ l + 1 → ⊥) → joined after u ≡ joined tasks u
  drest u nl nr = elim (cases_eq u p) [
    | inl e ↦ ap (joined after) e ∙ (ap is_joined (three_top tasks l p xl xr xp yl yr yp il ir ip below) ∙ sym (ap (joined tasks) e ∙ (ap is_joined ip ∙ dp)))
    | inr np ↦ ap is_joined (three_other tasks l p xl xr xp yl yr yp il ir ip below u nl nr np)
  ]

  -- the task that joins them goes on
  pub joiner_live : joined after p ≡ false
  joiner_live = drest p (λ e. let q : p < l = below in omega arith) (λ e. let q : p < l = below in omega arith) ∙ (ap is_joined ip ∙ dp)

  wrest : (u : ℕ) → (u ≡ p → ⊥) → waiting after u ≡ waiting tasks u
  wrest u np = elim (cases_eq u l) [
    | inl e ↦ ap (waiting after) e ∙ (ap is_waiting (three_left tasks l p xl xr xp yl yr yp il ir ip below) ∙ sym (ap (waiting tasks) e ∙ (ap is_waiting il ∙ wl)))
    | inr nl ↦ elim (cases_eq u (l + 1)) [
      | inl e ↦ ap (waiting after) e ∙ (ap is_waiting (three_right tasks l p xl xr xp yl yr yp il ir ip below) ∙ sym (ap (waiting tasks) e ∙ (ap is_waiting ir ∙ wr)))
      | inr nr ↦ ap is_waiting (three_other tasks l p xl xr xp yl yr yp il ir ip below u nl nr np)
    ]
  ]

  jrest : (u : ℕ) → (u ≡ p → ⊥) → joins_in after u ≡ joins_in tasks u
  jrest u np = elim (cases_eq u l) [
    | inl e ↦ ap (joins_in after) e ∙ (ap joins_of (three_left tasks l p xl xr xp yl yr yp il ir ip below) ∙ sym (ap (joins_in tasks) e ∙ ap joins_of il))
    | inr nl ↦ elim (cases_eq u (l + 1)) [
      | inl e ↦ ap (joins_in after) e ∙ (ap joins_of (three_right tasks l p xl xr xp yl yr yp il ir ip below) ∙ sym (ap (joins_in tasks) e ∙ ap joins_of ir))
      | inr nr ↦ ap joins_of (three_other tasks l p xl xr xp yl yr yp il ir ip below u nl nr np)
    ]
  ]

  pub join_joins : (u : ℕ) → joins_in tasks u ≤ joins_in after u
  join_joins u = elim (cases_eq u p) [
    | inl e ↦
        let a : joins_in tasks u ≡ xp.joins = ap (joins_in tasks) e ∙ ap joins_of ip in
        let b : joins_in after u ≡ xp.joins + 1 = ap (joins_in after) e ∙ ap joins_of (three_top tasks l p xl xr xp yl yr yp il ir ip below) in
        omega arith
    | inr np ↦ let c : joins_in after u ≡ joins_in tasks u = jrest u np in omega arith
  ]

  pub join_length : length after ≡ length tasks
  join_length = three_length tasks l p xl xr xp yl yr yp il ir ip below

  joins : Tree (length tasks) (parents tasks) (joined after) (waiting after) (joins_in after) es_joined
  joins =
      joins_keep (length tasks) (parents tasks) (joined tasks) (waiting tasks) (joins_in tasks) edges I (joined after) (waiting after) (joins_in after) l (l + 1) p
      parl parr (sym sib) (ap is_joined il ∙ dl) (ap is_joined ir ∙ dr) (ap is_waiting il ∙ wl) (ap is_waiting ir ∙ wr)
      (ap is_joined (three_left tasks l p xl xr xp yl yr yp il ir ip below)) (ap is_joined (three_right tasks l p xl xr xp yl yr yp il ir ip below)) drest
      (ap is_waiting (three_top tasks l p xl xr xp yl yr yp il ir ip below)) wrest
      (ap joins_of (three_top tasks l p xl xr xp yl yr yp il ir ip below) ∙ ap (λ k. k + 1) (sym (ap joins_of ip))) jrest

  pub join_tree : TreeOf after (edges ++ edge (strand_of l xl) (strand p (xp.joins + 1)) ∷ edge (strand_of (l + 1) xr) (strand p (xp.joins + 1)) ∷ [])
  join_tree =
      tree_by after (length tasks) (parents tasks) (joined after) (waiting after) (joins_in after) es_joined _
      (three_length tasks l p xl xr xp yl yr yp il ir ip below)
      (fun_ext (three_view tasks l p xl xr xp yl yr yp il ir ip below parent_of refl refl refl))
      refl refl refl
      (sum_join_edges (joins_in tasks l) (joins_in tasks (l + 1)) (joins_in tasks p) (ap joins_of il) (ap joins_of ir) (ap joins_of ip)) joins
