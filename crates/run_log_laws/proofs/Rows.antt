-- A fork and a join, by their edges, add turns to one task.
use Rattle.run_log_laws.proofs.Common.{◌≡◌, ◌<◌, ◌≤◌, ◌+◌, ◌*◌, ◌==◌, ℕ, zero, suc, Bool, true, false, List, [], ◌∷◌, ◌++◌, length, slice_get, Some, ◌⊎◌, inl, inr, refl, ap, sym, subst, ◌∙◌, arith, eq-eqb, ne_eqb, append-nil, length-append, cases_eq, both_ways, flat_map-append, slice_get_within, In, in_append_left, in_append_right, in_append_cases, got_front, GraphTurn, Spawn, Join, Edge, Precedes, strand, edge, turn_at, turns_of}
use Rattle.fork_graph.specs.Graph as graph
use Rattle.run_log_laws.proofs.Turns.{SpawnsAt, JoinsAt, IsFork, IsJoin, AreTurns}
use Rattle.run_log_laws.proofs.Walks.{wider}

-- TWO MORE

two_more : {A : Type 0} (xs : List A) (a b x : A) (i : ℕ) → slice_get (xs ++ a ∷ b ∷ []) i ≡ Some x
    → (slice_get xs i ≡ Some x) ⊎ (((i ≡ length xs) × (a ≡ x)) ⊎ ((i ≡ length xs + 1) × (b ≡ x)))
two_more [] a b x zero e = inr (inl (refl, cc))
two_more [] a b x (suc zero) e = inr (inr (refl, cc))
two_more [] a b x (suc (suc i)) e = absurd cc
two_more (y ∷ ys) a b x zero e = inl e
two_more (y ∷ ys) a b x (suc i) e = elim (two_more ys a b x i e) [
  | inl h ↦ inl h
  | inr more ↦ elim more [
    | inl h ↦ let at = h.0 in inr (inl (omega (arith, at), h.1))
    | inr h ↦ let at = h.0 in inr (inr (omega (arith, at), h.1))
  ]
]

first_more : {A : Type 0} (xs : List A) (a b : A) → slice_get (xs ++ a ∷ b ∷ []) (length xs) ≡ Some a
first_more [] a b = refl
first_more (x ∷ xs) a b = first_more xs a b

second_at : {A : Type 0} (xs : List A) (a b : A) → slice_get (xs ++ a ∷ b ∷ []) (suc (length xs)) ≡ Some b
second_at [] a b = refl
second_at (x ∷ xs) a b = second_at xs a b

second_more : {A : Type 0} (xs : List A) (a b : A) → slice_get (xs ++ a ∷ b ∷ []) (length xs + 1) ≡ Some b
second_more xs a b = subst (λ k. slice_get (xs ++ a ∷ b ∷ []) k ≡ Some b) (let e : suc (length xs) ≡ length xs + 1 = omega arith in e) (second_at xs a b)

kept_more : {A : Type 0} (xs ys : List A) (i : ℕ) (x : A) → slice_get xs i ≡ Some x → slice_get (xs ++ ys) i ≡ Some x
kept_more xs ys i x e = got_front xs ys i (slice_get_within xs i x e) ∙ e

-- the turns behind two more edges
pub turns_more : (es : List Edge) (d e : Edge) (t : ℕ) → turns_of (es ++ d ∷ e ∷ []) t ≡ turns_of es t ++ (turn_at t d ++ (turn_at t e ++ []))
turns_more es d e t = flat_map-append (turn_at t) es (d ∷ e ∷ [])

-- a task waits for both children of a fork
abbrev pub open_turns : Bool → ℕ
open_turns true = 2
open_turns false = 0

-- the turns of each task: four for each fork that has joined, and two more where it waits
pub record Rows (jd wt : ℕ → Bool) (js : ℕ → ℕ) (es : List Edge) : Type 0 where
  pub turns : AreTurns jd js es (turns_of es)
  pub count : (t : ℕ) → length (turns_of es t) ≡ 4 * js t + open_turns (wt t)

-- A FORK

module _ (jd wt : ℕ → Bool) (js : ℕ → ℕ) (es : List Edge) (R : Rows jd wt js es)
    (wt' : ℕ → Bool) (t n : ℕ) (live : jd t ≡ false) (idle : wt t ≡ false) (waits : wt' t ≡ true) (rest : (u : ℕ) → (u ≡ t → ⊥) → wt' u ≡ wt u) where
  abbrev d1 : Edge
  d1 = edge (strand t (js t)) (strand n 0)

  abbrev d2 : Edge
  d2 = edge (strand t (js t)) (strand (n + 1) 0)

  abbrev forked : List Edge
  forked = es ++ d1 ∷ d2 ∷ []

  pub own_turns : turns_of forked t ≡ turns_of es t ++ Spawn n ∷ Spawn (n + 1) ∷ []
  own_turns = turns_more es d1 d2 t ∙ rw (eq-eqb t t refl) refl

  pub other_turns : (u : ℕ) → (u ≡ t → ⊥) → turns_of forked u ≡ turns_of es u
  other_turns u ne = turns_more es d1 d2 u ∙ rw (ne_eqb t u (λ e. ne (sym e))) (append-nil (turns_of es u))

  pub size : length (turns_of es t) ≡ 4 * js t
  size = R.count t ∙ (ap (λ b. 4 * js t + open_turns b) idle ∙ (let e : 4 * js t + 0 ≡ 4 * js t = omega arith in e))

  count' : (u : ℕ) → length (turns_of forked u) ≡ 4 * js u + open_turns (wt' u)
  count' u = elim (cases_eq u t) [
    | inl e ↦ subst (λ x. length (turns_of forked x) ≡ 4 * js x + open_turns (wt' x)) (sym e)
        (ap length own_turns ∙ (length-append (turns_of es t) (Spawn n ∷ Spawn (n + 1) ∷ []) ∙ (ap (λ k. k + 2) size ∙ ap (λ b. 4 * js t + open_turns b) (sym waits))))
    | inr ne ↦ ap length (other_turns u ne) ∙ (R.count u ∙ ap (λ b. 4 * js u + open_turns b) (sym (rest u ne)))
  ]

  old_in : (e : Edge) → In es e → In forked e
  old_in e i = in_append_left es (d1 ∷ d2 ∷ []) e i

  in_first : In forked d1
  in_first = in_append_right es (d1 ∷ d2 ∷ []) d1 (inl refl)

  in_second : In forked d2
  in_second = in_append_right es (d1 ∷ d2 ∷ []) d2 (inr (inl refl))

  -- a turn of the tasks before
  pub kept : (u i : ℕ) (turn : GraphTurn) → graph.Does (turns_of es) u i turn → graph.Does (turns_of forked) u i turn
  kept u i turn h = elim (cases_eq u t) [
    | inl e ↦ subst (λ x. slice_get (turns_of forked x) i ≡ Some turn) (sym e) (ap (λ xs. slice_get xs i) own_turns ∙ kept_more (turns_of es t) (Spawn n ∷ Spawn (n + 1) ∷ []) i turn (subst (λ x. slice_get (turns_of es x) i ≡ Some turn) e h))
    | inr ne ↦ ap (λ xs. slice_get xs i) (other_turns u ne) ∙ h
  ]

  -- each turn was there, or spawns one of both children
  abbrev Old : ℕ → ℕ → GraphTurn → Type 0
  Old u i turn = graph.Does (turns_of es) u i turn ⊎ ((u ≡ t) × (((i ≡ 4 * js t) × (Spawn n ≡ turn)) ⊎ ((i ≡ 4 * js t + 1) × (Spawn (n + 1) ≡ turn))))

  pub was : (u i : ℕ) (turn : GraphTurn) → graph.Does (turns_of forked) u i turn → Old u i turn
  was u i turn h = elim (cases_eq u t) [
    | inl e ↦ elim (two_more (turns_of es t) (Spawn n) (Spawn (n + 1)) turn i (sym (ap (λ xs. slice_get xs i) own_turns) ∙ subst (λ x. slice_get (turns_of forked x) i ≡ Some turn) e h)) [
      | inl old ↦ inl (subst (λ x. slice_get (turns_of es x) i ≡ Some turn) (sym e) old)
      | inr new ↦ elim new [ inl a ↦ inr (e, inl (a.0 ∙ size, a.1)) | inr b ↦ inr (e, inr (b.0 ∙ ap (λ k. k + 1) size, b.1)) ]
    ]
    | inr ne ↦ inl (sym (ap (λ xs. slice_get xs i) (other_turns u ne)) ∙ h)
  ]

  pub spawn_child : (a b : ℕ) → Spawn a ≡ Spawn b → a ≡ b
  spawn_child a b e = cc

  spawn_old : (u i c : ℕ) → SpawnsAt es u i c → SpawnsAt forked u i c
  spawn_old u i c S = record { fork = S.fork; side = S.side; two = S.two; at = S.at; there = old_in (edge (strand u S.fork) (strand c 0)) S.there }

  spawn_new : (u i c x side : ℕ) → side < 2 → In forked (edge (strand t (js t)) (strand x 0)) → u ≡ t → i ≡ 4 * js t + side → Spawn x ≡ Spawn c → SpawnsAt forked u i c
  spawn_new u i c x side two there here at same = record {
    fork = js t;
    side = side;
    two = two;
    at = at;
    there = subst (λ k. In forked (edge (strand k (js t)) (strand c 0))) (sym here) (subst (λ k. In forked (edge (strand t (js t)) (strand k 0))) (spawn_child x c same) there);
  }

  spawns' : (u i c : ℕ) → graph.Does (turns_of forked) u i (Spawn c) → SpawnsAt forked u i c
  spawns' u i c h = elim (was u i (Spawn c) h) [
    | inl old ↦ spawn_old u i c (R.turns.spawns u i c old)
    | inr new ↦ elim new.1 [
      | inl a ↦ spawn_new u i c n 0 (omega arith) in_first new.0 (let at = a.0 in omega (arith, at)) a.1
      | inr b ↦ spawn_new u i c (n + 1) 1 (omega arith) in_second new.0 b.0 b.1
    ]
  ]

  not_own : (c : ℕ) → jd c ≡ true → c ≡ t → ⊥
  not_own c over e = both_ways (jd c) (ap jd e ∙ live) over

  join_old : (u i c : ℕ) → JoinsAt jd js es (turns_of es) u i c → JoinsAt jd js forked (turns_of forked) u i c
  join_old u i c J = record {
    fork = J.fork;
    side = J.side;
    two = J.two;
    at = J.at;
    over = J.over;
    all = ap length (other_turns c (not_own c J.over)) ∙ J.all;
    there = old_in (edge (strand c (js c)) (strand u (J.fork + 1))) J.there;
  }

  no_join : (x c : ℕ) → Spawn x ≡ Join c → ⊥
  no_join x c e = cc

  pub join_was : (u i c : ℕ) → graph.Does (turns_of forked) u i (Join c) → graph.Does (turns_of es) u i (Join c)
  join_was u i c h = elim (was u i (Join c) h) [
    | inl old ↦ old
    | inr new ↦ elim new.1 [ inl a ↦ absurd (no_join n c a.1) | inr b ↦ absurd (no_join (n + 1) c b.1) ]
  ]

  joins' : (u i c : ℕ) → graph.Does (turns_of forked) u i (Join c) → JoinsAt jd js forked (turns_of forked) u i c
  joins' u i c h = join_old u i c (R.turns.joins u i c (join_was u i c h))

  pub first_turn : graph.Does (turns_of forked) t (4 * js t + 0) (Spawn n)
  first_turn = subst (λ k. slice_get (turns_of forked t) k ≡ Some (Spawn n)) (let s = size in let e : length (turns_of es t) ≡ 4 * js t + 0 = omega (arith, s) in e)
      (ap (λ xs. slice_get xs (length (turns_of es t))) own_turns ∙ first_more (turns_of es t) (Spawn n) (Spawn (n + 1)))

  fork_first : IsFork (turns_of forked) d1
  fork_first = record {
    side = 0;
    two = omega arith;
    turn = first_turn;
  }

  pub second_turn : graph.Does (turns_of forked) t (4 * js t + 1) (Spawn (n + 1))
  second_turn = subst (λ k. slice_get (turns_of forked t) k ≡ Some (Spawn (n + 1))) (let s = size in let e : length (turns_of es t) + 1 ≡ 4 * js t + 1 = omega (arith, s) in e)
      (ap (λ xs. slice_get xs (length (turns_of es t) + 1)) own_turns ∙ second_more (turns_of es t) (Spawn n) (Spawn (n + 1)))

  fork_second : IsFork (turns_of forked) d2
  fork_second = record {
    side = 1;
    two = omega arith;
    turn = second_turn;
  }

  forks' : (e : Edge) → In forked e → e.target.joins ≡ 0 → IsFork (turns_of forked) e
  forks' e i first = elim (in_append_cases es (d1 ∷ d2 ∷ []) e i) [
    | inl old ↦ let f = R.turns.forks e old first in record { side = f.side; two = f.two; turn = kept e.source.task (4 * e.source.joins + f.side) (Spawn e.target.task) f.turn }
    | inr new ↦ elim new [
      | inl is ↦ subst (IsFork (turns_of forked)) is fork_first
      | inr more ↦ elim more [ inl is ↦ subst (IsFork (turns_of forked)) is fork_second | inr none ↦ absurd none ]
    ]
  ]

  first_strand : (e : Edge) (d : Edge) (fork : ℕ) → d ≡ e → d.target.joins ≡ 0 → e.target.joins ≡ fork + 1 → ⊥
  first_strand e d fork is none later = let z : e.target.joins ≡ 0 = ap (λ (x : Edge). x.target.joins) (sym is) ∙ none in omega (arith, z, later)

  pub longer : (u : ℕ) → length (turns_of es u) ≤ length (turns_of forked u)
  longer u = elim (cases_eq u t) [
    | inl e ↦ subst (λ x. length (turns_of es x) ≤ length (turns_of forked x)) (sym e) (let l : length (turns_of forked t) ≡ length (turns_of es t) + 2 = ap length own_turns ∙ length-append (turns_of es t) (Spawn n ∷ Spawn (n + 1) ∷ []) in omega (arith, l))
    | inr ne ↦ let l : length (turns_of forked u) ≡ length (turns_of es u) = ap length (other_turns u ne) in omega (arith, l)
  ]

  ends' : (e : Edge) (fork : ℕ) → In forked e → e.target.joins ≡ fork + 1 → IsJoin js (turns_of forked) e fork
  ends' e fork i later = elim (in_append_cases es (d1 ∷ d2 ∷ []) e i) [
    | inl old ↦
        let j = R.turns.ends e fork old later in
        let w = j.whole in
        let l = longer e.target.task in
        record { side = j.side; two = j.two; turn = kept e.target.task (4 * fork + 2 + j.side) (Join e.source.task) j.turn; whole = omega (arith, w, l); last = j.last }
    | inr new ↦ elim new [
      | inl is ↦ absurd (first_strand e d1 fork is refl later)
      | inr more ↦ elim more [ inl is ↦ absurd (first_strand e d2 fork is refl later) | inr none ↦ absurd none ]
    ]
  ]

  rising' : (u fork c : ℕ) → graph.Does (turns_of forked) u (4 * fork + 2) (Join c) → Precedes forked (strand u fork) (strand u (fork + 1))
  rising' u fork c h = wider es (d1 ∷ d2 ∷ []) (strand u fork) (strand u (fork + 1)) (R.turns.rising u fork c (join_was u (4 * fork + 2) c h))

  pub forks_keep_rows : Rows jd wt' js forked
  forks_keep_rows = record { turns = record { spawns = spawns'; joins = joins'; forks = forks'; ends = ends'; rising = rising' }; count = count' }

-- A JOIN

module _ (jd wt : ℕ → Bool) (js : ℕ → ℕ) (es : List Edge) (R : Rows jd wt js es)
    (jd' wt' : ℕ → Bool) (js' : ℕ → ℕ) (l r p : ℕ) (apart : l ≡ r → ⊥) (not_l : p ≡ l → ⊥) (not_r : p ≡ r → ⊥)
    (wl : wt l ≡ false) (wr : wt r ≡ false) (wp : wt p ≡ true) (wp' : wt' p ≡ false) (wrest : (u : ℕ) → (u ≡ p → ⊥) → wt' u ≡ wt u)
    (dp : jd p ≡ false) (dl' : jd' l ≡ true) (dr' : jd' r ≡ true) (dwider : (u : ℕ) → jd u ≡ true → jd' u ≡ true)
    (jp : js' p ≡ js p + 1) (jrest : (u : ℕ) → (u ≡ p → ⊥) → js' u ≡ js u)
    (up : Precedes (es ++ edge (strand l (js l)) (strand p (js p + 1)) ∷ edge (strand r (js r)) (strand p (js p + 1)) ∷ []) (strand p (js p)) (strand p (js p + 1))) where
  abbrev b1 : Edge
  b1 = edge (strand l (js l)) (strand p (js p + 1))

  abbrev b2 : Edge
  b2 = edge (strand r (js r)) (strand p (js p + 1))

  abbrev joined : List Edge
  joined = es ++ b1 ∷ b2 ∷ []

  no_first : (k : ℕ) → (k + 1 == 0) ≡ false
  no_first k = ne_eqb (k + 1) 0 (λ e. omega (arith, e))

  pub own_joins : turns_of joined p ≡ turns_of es p ++ Join l ∷ Join r ∷ []
  own_joins = turns_more es b1 b2 p ∙ rw (no_first (js p), eq-eqb p p refl) refl

  pub other_joins : (u : ℕ) → (u ≡ p → ⊥) → turns_of joined u ≡ turns_of es u
  other_joins u ne = turns_more es b1 b2 u ∙ rw (no_first (js p), ne_eqb p u (λ e. ne (sym e))) (append-nil (turns_of es u))

  pub size_open : length (turns_of es p) ≡ 4 * js p + 2
  size_open = R.count p ∙ ap (λ b. 4 * js p + open_turns b) wp

  count_joined : (u : ℕ) → length (turns_of joined u) ≡ 4 * js' u + open_turns (wt' u)
  count_joined u = elim (cases_eq u p) [
    | inl e ↦ subst (λ x. length (turns_of joined x) ≡ 4 * js' x + open_turns (wt' x)) (sym e)
        (let a : length (turns_of joined p) ≡ length (turns_of es p) + 2 = ap length own_joins ∙ length-append (turns_of es p) (Join l ∷ Join r ∷ []) in
        let b = size_open in
        let c = jp in
        let z : open_turns (wt' p) ≡ 0 = ap open_turns wp' in
        omega (arith, a, b, c, z))
    | inr ne ↦ ap length (other_joins u ne) ∙ (R.count u ∙ (let a : js u ≡ js' u = sym (jrest u ne) in let b : wt u ≡ wt' u = sym (wrest u ne) in ap (λ k. 4 * k + open_turns (wt u)) a ∙ ap (λ w. 4 * js' u + open_turns w) b))
  ]

  old_in_joined : (e : Edge) → In es e → In joined e
  old_in_joined e i = in_append_left es (b1 ∷ b2 ∷ []) e i

  in_left : In joined b1
  in_left = in_append_right es (b1 ∷ b2 ∷ []) b1 (inl refl)

  in_right : In joined b2
  in_right = in_append_right es (b1 ∷ b2 ∷ []) b2 (inr (inl refl))

  pub kept_joined : (u i : ℕ) (turn : GraphTurn) → graph.Does (turns_of es) u i turn → graph.Does (turns_of joined) u i turn
  kept_joined u i turn h = elim (cases_eq u p) [
    | inl e ↦ subst (λ x. slice_get (turns_of joined x) i ≡ Some turn) (sym e) (ap (λ xs. slice_get xs i) own_joins ∙ kept_more (turns_of es p) (Join l ∷ Join r ∷ []) i turn (subst (λ x. slice_get (turns_of es x) i ≡ Some turn) e h))
    | inr ne ↦ ap (λ xs. slice_get xs i) (other_joins u ne) ∙ h
  ]

  abbrev Before : ℕ → ℕ → GraphTurn → Type 0
  Before u i turn = graph.Does (turns_of es) u i turn ⊎ ((u ≡ p) × (((i ≡ 4 * js p + 2) × (Join l ≡ turn)) ⊎ ((i ≡ 4 * js p + 3) × (Join r ≡ turn))))

  pub before : (u i : ℕ) (turn : GraphTurn) → graph.Does (turns_of joined) u i turn → Before u i turn
  before u i turn h = elim (cases_eq u p) [
    | inl e ↦ elim (two_more (turns_of es p) (Join l) (Join r) turn i (sym (ap (λ xs. slice_get xs i) own_joins) ∙ subst (λ x. slice_get (turns_of joined x) i ≡ Some turn) e h)) [
      | inl old ↦ inl (subst (λ x. slice_get (turns_of es x) i ≡ Some turn) (sym e) old)
      | inr new ↦ elim new [
        | inl a ↦ inr (e, inl (a.0 ∙ size_open, a.1))
        | inr b ↦ let at = b.0 in let s = size_open in inr (e, inr (omega (arith, at, s), b.1))
      ]
    ]
    | inr ne ↦ inl (sym (ap (λ xs. slice_get xs i) (other_joins u ne)) ∙ h)
  ]

  pub no_spawn : (x c : ℕ) → Join x ≡ Spawn c → ⊥
  no_spawn x c e = cc

  pub join_child : (a b : ℕ) → Join a ≡ Join b → a ≡ b
  join_child a b e = cc

  spawn_before : (u i c : ℕ) → SpawnsAt es u i c → SpawnsAt joined u i c
  spawn_before u i c S = record { fork = S.fork; side = S.side; two = S.two; at = S.at; there = old_in_joined (edge (strand u S.fork) (strand c 0)) S.there }

  spawns_joined : (u i c : ℕ) → graph.Does (turns_of joined) u i (Spawn c) → SpawnsAt joined u i c
  spawns_joined u i c h = elim (before u i (Spawn c) h) [
    | inl old ↦ spawn_before u i c (R.turns.spawns u i c old)
    | inr new ↦ elim new.1 [ inl a ↦ absurd (no_spawn l c a.1) | inr b ↦ absurd (no_spawn r c b.1) ]
  ]

  -- who was joined doesn't join
  was_over : (c : ℕ) → jd c ≡ true → c ≡ p → ⊥
  was_over c over e = both_ways (jd c) (ap jd e ∙ dp) over

  join_before : (u i c : ℕ) → JoinsAt jd js es (turns_of es) u i c → JoinsAt jd' js' joined (turns_of joined) u i c
  join_before u i c J =
      let ne = was_over c J.over in
      let same : js' c ≡ js c = jrest c ne in
      record {
        fork = J.fork;
        side = J.side;
        two = J.two;
        at = J.at;
        over = dwider c J.over;
        all = ap length (other_joins c ne) ∙ (J.all ∙ ap (λ k. 4 * k) (sym same));
        there = subst (λ k. In joined (edge (strand c k) (strand u (J.fork + 1)))) (sym same) (old_in_joined (edge (strand c (js c)) (strand u (J.fork + 1))) J.there);
      }

  -- the two children that join now
  join_now : (u i c side : ℕ) → side < 2 → u ≡ p → i ≡ 4 * js p + 2 + side → (c ≡ p → ⊥) → jd' c ≡ true → wt c ≡ false → In joined (edge (strand c (js c)) (strand p (js p + 1))) → JoinsAt jd' js' joined (turns_of joined) u i c
  join_now u i c side two here at ne over idle there =
      let same : js' c ≡ js c = jrest c ne in
      record {
        fork = js p;
        side = side;
        two = two;
        at = at;
        over = over;
        all = ap length (other_joins c ne) ∙ (R.count c ∙ (ap (λ b. 4 * js c + open_turns b) idle ∙ (let e : 4 * js c + 0 ≡ 4 * js' c = omega (arith, same) in e)));
        there = subst (λ k. In joined (edge (strand c k) (strand u (js p + 1)))) (sym same) (subst (λ k. In joined (edge (strand c (js c)) (strand k (js p + 1)))) (sym here) there);
      }

  abbrev Joins : ℕ → ℕ → ℕ → Type 0
  Joins u i c = JoinsAt jd' js' joined (turns_of joined) u i c

  joins_joined : (u i c : ℕ) → graph.Does (turns_of joined) u i (Join c) → Joins u i c
  joins_joined u i c h = elim (before u i (Join c) h) [
    | inl old ↦ join_before u i c (R.turns.joins u i c old)
    | inr new ↦ elim new.1 [
      | inl a ↦ subst (Joins u i) (join_child l c a.1) (join_now u i l 0 (omega arith) new.0 (let at = a.0 in omega (arith, at)) (λ e. not_l (sym e)) dl' wl in_left)
      | inr b ↦ subst (Joins u i) (join_child r c b.1) (join_now u i r 1 (omega arith) new.0 (let at = b.0 in omega (arith, at)) (λ e. not_r (sym e)) dr' wr in_right)
    ]
  ]

  pub longer_joined : (u : ℕ) → length (turns_of es u) ≤ length (turns_of joined u)
  longer_joined u = elim (cases_eq u p) [
    | inl e ↦ subst (λ x. length (turns_of es x) ≤ length (turns_of joined x)) (sym e) (let a : length (turns_of joined p) ≡ length (turns_of es p) + 2 = ap length own_joins ∙ length-append (turns_of es p) (Join l ∷ Join r ∷ []) in omega (arith, a))
    | inr ne ↦ let a : length (turns_of joined u) ≡ length (turns_of es u) = ap length (other_joins u ne) in omega (arith, a)
  ]

  forks_joined : (e : Edge) → In joined e → e.target.joins ≡ 0 → IsFork (turns_of joined) e
  forks_joined e i first = elim (in_append_cases es (b1 ∷ b2 ∷ []) e i) [
    | inl old ↦ let f = R.turns.forks e old first in record { side = f.side; two = f.two; turn = kept_joined e.source.task (4 * e.source.joins + f.side) (Spawn e.target.task) f.turn }
    | inr new ↦ elim new [
      | inl is ↦ absurd (later_strand e b1 is refl first)
      | inr more ↦ elim more [ inl is ↦ absurd (later_strand e b2 is refl first) | inr none ↦ absurd none ]
    ]
  ]
    where
      later_strand : (e d : Edge) → d ≡ e → d.target.joins ≡ js p + 1 → e.target.joins ≡ 0 → ⊥
      later_strand e d is later first = let z : e.target.joins ≡ js p + 1 = ap (λ (x : Edge). x.target.joins) (sym is) ∙ later in omega (arith, z, first)

  pub left_turn : graph.Does (turns_of joined) p (4 * js p + 2 + 0) (Join l)
  left_turn = subst (λ k. slice_get (turns_of joined p) k ≡ Some (Join l)) (let s = size_open in let e : length (turns_of es p) ≡ 4 * js p + 2 + 0 = omega (arith, s) in e)
      (ap (λ xs. slice_get xs (length (turns_of es p))) own_joins ∙ first_more (turns_of es p) (Join l) (Join r))

  end_left : IsJoin js' (turns_of joined) b1 (js p)
  end_left = record {
    side = 0;
    two = omega arith;
    turn = left_turn;
    whole = let c = count_joined p in let j = jp in omega (arith, c, j);
    last = sym (jrest l (λ e. not_l (sym e)));
  }

  pub right_turn : graph.Does (turns_of joined) p (4 * js p + 2 + 1) (Join r)
  right_turn = subst (λ k. slice_get (turns_of joined p) k ≡ Some (Join r)) (let s = size_open in let e : length (turns_of es p) + 1 ≡ 4 * js p + 2 + 1 = omega (arith, s) in e)
      (ap (λ xs. slice_get xs (length (turns_of es p) + 1)) own_joins ∙ second_more (turns_of es p) (Join l) (Join r))

  end_right : IsJoin js' (turns_of joined) b2 (js p)
  end_right = record {
    side = 1;
    two = omega arith;
    turn = right_turn;
    whole = let c = count_joined p in let j = jp in omega (arith, c, j);
    last = sym (jrest r (λ e. not_r (sym e)));
  }

  -- the source of an edge into a join has joined, so it keeps its count
  last_kept : (e : Edge) (fork : ℕ) → IsJoin js (turns_of es) e fork → js' e.source.task ≡ js e.source.task
  last_kept e fork j = jrest e.source.task (was_over e.source.task (R.turns.joins e.target.task (4 * fork + 2 + j.side) e.source.task j.turn).over)

  end_old : (e : Edge) (fork : ℕ) → IsJoin js (turns_of es) e fork → IsJoin js' (turns_of joined) e fork
  end_old e fork j =
      let w = j.whole in
      let lg = longer_joined e.target.task in
      record { side = j.side; two = j.two; turn = kept_joined e.target.task (4 * fork + 2 + j.side) (Join e.source.task) j.turn; whole = omega (arith, w, lg); last = j.last ∙ sym (last_kept e fork j) }

  same_fork : (e d : Edge) (fork : ℕ) → d ≡ e → d.target.joins ≡ js p + 1 → e.target.joins ≡ fork + 1 → js p ≡ fork
  same_fork e d fork is one other = let z : e.target.joins ≡ js p + 1 = ap (λ (x : Edge). x.target.joins) (sym is) ∙ one in omega (arith, z, other)

  ends_joined : (e : Edge) (fork : ℕ) → In joined e → e.target.joins ≡ fork + 1 → IsJoin js' (turns_of joined) e fork
  ends_joined e fork i later = elim (in_append_cases es (b1 ∷ b2 ∷ []) e i) [
    | inl old ↦ end_old e fork (R.turns.ends e fork old later)
    | inr new ↦ elim new [
      | inl is ↦ subst (IsJoin js' (turns_of joined) e) (same_fork e b1 fork is refl later) (subst (λ x. IsJoin js' (turns_of joined) x (js p)) is end_left)
      | inr more ↦ elim more [
        | inl is ↦ subst (IsJoin js' (turns_of joined) e) (same_fork e b2 fork is refl later) (subst (λ x. IsJoin js' (turns_of joined) x (js p)) is end_right)
        | inr none ↦ absurd none
      ]
    ]
  ]

  rising_joined : (u fork c : ℕ) → graph.Does (turns_of joined) u (4 * fork + 2) (Join c) → Precedes joined (strand u fork) (strand u (fork + 1))
  rising_joined u fork c h = elim (before u (4 * fork + 2) (Join c) h) [
    | inl old ↦ wider es (b1 ∷ b2 ∷ []) (strand u fork) (strand u (fork + 1)) (R.turns.rising u fork c old)
    | inr new ↦ elim new.1 [
      | inl a ↦
          let at = a.0 in
          let k : js p ≡ fork = omega (arith, at) in
          subst (λ x. Precedes joined (strand x fork) (strand x (fork + 1))) (sym new.0) (subst (λ x. Precedes joined (strand p x) (strand p (x + 1))) k up)
      | inr b ↦ let at = b.0 in absurd (omega (arith, at))
    ]
  ]

  pub joins_keep_rows : Rows jd' wt' js' joined
  joins_keep_rows = record { turns = record { spawns = spawns_joined; joins = joins_joined; forks = forks_joined; ends = ends_joined; rising = rising_joined }; count = count_joined }
