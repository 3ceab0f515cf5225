-- In the turns of a run each child is joined two turns after its spawn.
use Rattle.run_log_laws.proofs.Common.{◌≡◌, ◌<◌, ◌≤◌, ◌+◌, ◌*◌, ℕ, Bool, true, false, cond, Option, Some, List, [], ◌∷◌, ◌++◌, length, length-append, ◌⊎◌, inl, inr, refl, ap, sym, subst, ◌∙◌, arith, cases_eq, both_ways, cases_lt, slice_get_within, same_Some, Spawn, Join, Precedes, strand, edge, is_left, Edge, turns_of}
use Rattle.fork_graph.specs.Graph as graph
use Rattle.run_log_laws.proofs.Rows.{Rows, own_turns, other_turns, size, kept, was, spawn_child, join_was, first_turn, second_turn, other_joins, size_open, kept_joined, before, join_child, no_spawn, left_turn, right_turn}

-- which of the two turns of a fork spawns the child
abbrev pub side_of : ℕ → ℕ
side_of c = cond (is_left c) 0 1

-- n tasks with these parents, of which some have joined
pub record Pairs (n : ℕ) (par : ℕ → Option ℕ) (jd : ℕ → Bool) (js : ℕ → ℕ) (tasks : graph.TaskTurns) : Type 0 where
  pub below : (t i c : ℕ) → graph.Does tasks t i (Spawn c) → (0 < c) × (c < n)
  pub once : (c t i t' i' : ℕ) → graph.Does tasks t i (Spawn c) → graph.Does tasks t' i' (Spawn c) → (t ≡ t') × (i ≡ i')
  pub back : (t i c : ℕ) → graph.Does tasks t i (Join c) → (j : ℕ) × (i ≡ j + 2) × graph.Does tasks t j (Spawn c)
  pub next : (t j c : ℕ) → graph.Does tasks t j (Spawn c) → j + 2 < length (tasks t) → graph.Does tasks t (j + 2) (Join c)
  -- a child that hasn't joined was spawned by the parent's last fork
  pub last_fork : (c q : ℕ) → par c ≡ Some q → jd c ≡ false → graph.Does tasks q (4 * js q + side_of c) (Spawn c)
  pub made : (c : ℕ) → 0 < c → c < n → (t : ℕ) × (i : ℕ) × (t < c) × graph.Does tasks t i (Spawn c)

same_child : (tasks : graph.TaskTurns) (t i c d : ℕ) → graph.Does tasks t i (Spawn c) → graph.Does tasks t i (Spawn d) → c ≡ d
same_child tasks t i c d a b = spawn_same c d (same_Some (Spawn c) (Spawn d) (sym a ∙ b))
  where
    spawn_same : (c d : ℕ) → Spawn c ≡ Spawn d → c ≡ d
    spawn_same c d e = cc

-- A FORK

module _ (par : ℕ → Option ℕ) (jd wt : ℕ → Bool) (js : ℕ → ℕ) (es : List Edge) (R : Rows jd wt js es)
    (wt' : ℕ → Bool) (t n : ℕ) (live : jd t ≡ false) (idle : wt t ≡ false) (waits : wt' t ≡ true) (rest : (u : ℕ) → (u ≡ t → ⊥) → wt' u ≡ wt u)
    (P : Pairs n par jd js (turns_of es)) (par' : ℕ → Option ℕ) (lt : t < n) (left : side_of n ≡ 0) (right : side_of (n + 1) ≡ 1)
    (first : par' n ≡ Some t) (second : par' (n + 1) ≡ Some t) (prest : (u : ℕ) → (u ≡ n → ⊥) → (u ≡ n + 1 → ⊥) → par' u ≡ par u) where
  abbrev T : graph.TaskTurns
  T = turns_of es

  abbrev T' : graph.TaskTurns
  T' = turns_of (es ++ edge (strand t (js t)) (strand n 0) ∷ edge (strand t (js t)) (strand (n + 1) 0) ∷ [])

  keep : (u i c : ℕ) → graph.Does T u i (Spawn c) → graph.Does T' u i (Spawn c)
  keep u i c h = kept jd wt js es R wt' t n live idle waits rest u i (Spawn c) h

  abbrev IsNewSpawn : ℕ → ℕ → ℕ → Type 0
  IsNewSpawn u i c = (u ≡ t) × (n ≤ c) × (c ≤ n + 1) × (i + n ≡ 4 * js t + c)

  spawn_cases : (u i c : ℕ) → graph.Does T' u i (Spawn c) → graph.Does T u i (Spawn c) ⊎ IsNewSpawn u i c
  spawn_cases u i c h = elim (was jd wt js es R wt' t n live idle waits rest u i (Spawn c) h) [
    | inl old ↦ inl old
    | inr new ↦ elim new.1 [
      | inl a ↦ let at = a.0 in let e : n ≡ c = spawn_child jd wt js es R wt' t n live idle waits rest n c a.1 in inr (new.0, omega (arith, e), omega (arith, e), omega (arith, e, at))
      | inr b ↦ let at = b.0 in let e : n + 1 ≡ c = spawn_child jd wt js es R wt' t n live idle waits rest (n + 1) c b.1 in inr (new.0, omega (arith, e), omega (arith, e), omega (arith, e, at))
    ]
  ]

  forked_size : length (T' t) ≡ 4 * js t + 2
  forked_size =
      let s = size jd wt js es R wt' t n live idle waits rest in
      let a : length (T' t) ≡ length (T t) + 2 = ap length (own_turns jd wt js es R wt' t n live idle waits rest) ∙ length-append (T t) (Spawn n ∷ Spawn (n + 1) ∷ []) in
      omega (arith, a, s)

  next_old : (u j c : ℕ) → graph.Does T u j (Spawn c) → j + 2 < length (T' u) → j + 2 < length (T u)
  next_old u j c h lt' = elim (cases_eq u t) [
    | inl e ↦
        let h' : graph.Does T t j (Spawn c) = subst (λ v. graph.Does T v j (Spawn c)) e h in
        let w = slice_get_within (T t) j (Spawn c) h' in
        let s = size jd wt js es R wt' t n live idle waits rest in
        let S = R.turns.spawns t j c h' in
        let two = S.two in
        let at = S.at in
        subst (λ v. j + 2 < length (T v)) (sym e) (omega (arith, w, s, two, at))
    | inr ne ↦ subst (λ xs. j + 2 < length xs) (other_turns jd wt js es R wt' t n live idle waits rest u ne) lt'
  ]

  open_now : (c q : ℕ) → par' c ≡ Some q → jd c ≡ false → graph.Does T' q (4 * js q + side_of c) (Spawn c)
  open_now c q pc out = elim (cases_eq c n) [
    | inl e ↦
        let q_is : t ≡ q = same_Some t q (sym first ∙ (ap par' (sym e) ∙ pc)) in
        subst (λ k. graph.Does T' k (4 * js k + side_of c) (Spawn c)) q_is (subst (λ k. graph.Does T' t (4 * js t + side_of k) (Spawn k)) (sym e) (subst (λ k. graph.Does T' t (4 * js t + k) (Spawn n)) (sym left) (first_turn jd wt js es R wt' t n live idle waits rest)))
    | inr ne ↦ elim (cases_eq c (n + 1)) [
      | inl e ↦
          let q_is : t ≡ q = same_Some t q (sym second ∙ (ap par' (sym e) ∙ pc)) in
          subst (λ k. graph.Does T' k (4 * js k + side_of c) (Spawn c)) q_is (subst (λ k. graph.Does T' t (4 * js t + side_of k) (Spawn k)) (sym e) (subst (λ k. graph.Does T' t (4 * js t + k) (Spawn (n + 1))) (sym right) (second_turn jd wt js es R wt' t n live idle waits rest)))
      | inr ne' ↦ keep q (4 * js q + side_of c) c (P.last_fork c q (sym (prest c ne ne') ∙ pc) out)
    ]
  ]

  made_now : (c : ℕ) → 0 < c → c < n + 2 → (u : ℕ) × (i : ℕ) × (u < c) × graph.Does T' u i (Spawn c)
  made_now c some few = elim (cases_lt c n) [
    | inl old ↦ let m = P.made c some old in (m.0, m.1, m.2, keep m.0 m.1 c m.3)
    | inr ge ↦ elim (cases_eq c n) [
      | inl e ↦ (t, 4 * js t + 0, omega (arith, lt, e), subst (λ k. graph.Does T' t (4 * js t + 0) (Spawn k)) (sym e) (first_turn jd wt js es R wt' t n live idle waits rest))
      | inr ne ↦
          let e : c ≡ n + 1 = omega (arith, few, ge, ne) in
          (t, 4 * js t + 1, omega (arith, lt, e), subst (λ k. graph.Does T' t (4 * js t + 1) (Spawn k)) (sym e) (second_turn jd wt js es R wt' t n live idle waits rest))
    ]
  ]

  pub forks_keep_pairs : Pairs (n + 2) par' jd js T'
  forks_keep_pairs = record {
    below = λ u i c h. elim (spawn_cases u i c h) [
      | inl old ↦ let b = P.below u i c old in let b0 = b.0 in let b1 = b.1 in (b0, omega (arith, b1))
      | inr new ↦ let a = new.1 in let b = new.2 in (omega (arith, a, lt), omega (arith, b))
    ];
    once = λ c u i u' i' h h'. elim (spawn_cases u i c h) [
      | inl old ↦ elim (spawn_cases u' i' c h') [
        | inl old' ↦ P.once c u i u' i' old old'
        | inr new' ↦ let b = (P.below u i c old).1 in let a = new'.1 in absurd (omega (arith, a, b))
      ]
      | inr new ↦ elim (spawn_cases u' i' c h') [
        | inl old' ↦ let b = (P.below u' i' c old').1 in let a = new.1 in absurd (omega (arith, a, b))
        | inr new' ↦ let a = new.3 in let b = new'.3 in (new.0 ∙ sym new'.0, omega (arith, a, b))
      ]
    ];
    back = λ u i c h. let b = P.back u i c (join_was jd wt js es R wt' t n live idle waits rest u i c h) in (b.0, b.1, keep u b.0 c b.2);
    next = λ u j c h lt'. elim (spawn_cases u j c h) [
      | inl old ↦ kept jd wt js es R wt' t n live idle waits rest u (j + 2) (Join c) (P.next u j c old (next_old u j c old lt'))
      | inr new ↦
          let s : length (T' u) ≡ 4 * js t + 2 = ap (λ v. length (T' v)) new.0 ∙ forked_size in
          let a = new.1 in
          let b = new.3 in
          absurd (omega (arith, lt', s, a, b))
    ];
    last_fork = open_now;
    made = made_now;
  }

-- A JOIN

module _ (n : ℕ) (par : ℕ → Option ℕ) (jd wt : ℕ → Bool) (js : ℕ → ℕ) (es : List Edge) (R : Rows jd wt js es)
    (jd' wt' : ℕ → Bool) (js' : ℕ → ℕ) (l r p : ℕ) (apart : l ≡ r → ⊥) (not_l : p ≡ l → ⊥) (not_r : p ≡ r → ⊥)
    (wl : wt l ≡ false) (wr : wt r ≡ false) (wp : wt p ≡ true) (wp' : wt' p ≡ false) (wrest : (u : ℕ) → (u ≡ p → ⊥) → wt' u ≡ wt u)
    (dp : jd p ≡ false) (dl' : jd' l ≡ true) (dr' : jd' r ≡ true) (dwider : (u : ℕ) → jd u ≡ true → jd' u ≡ true)
    (jp : js' p ≡ js p + 1) (jrest : (u : ℕ) → (u ≡ p → ⊥) → js' u ≡ js u)
    (up : Precedes (es ++ edge (strand l (js l)) (strand p (js p + 1)) ∷ edge (strand r (js r)) (strand p (js p + 1)) ∷ []) (strand p (js p)) (strand p (js p + 1)))
    (P : Pairs n par jd js (turns_of es)) (pl : par l ≡ Some p) (pr : par r ≡ Some p) (dl : jd l ≡ false) (dr : jd r ≡ false) (left : side_of l ≡ 0) (right : side_of r ≡ 1) where
  abbrev U : graph.TaskTurns
  U = turns_of es

  abbrev U' : graph.TaskTurns
  U' = turns_of (es ++ edge (strand l (js l)) (strand p (js p + 1)) ∷ edge (strand r (js r)) (strand p (js p + 1)) ∷ [])

  keep_spawn : (u i c : ℕ) → graph.Does U u i (Spawn c) → graph.Does U' u i (Spawn c)
  keep_spawn u i c h = kept_joined jd wt js es R jd' wt' js' l r p apart not_l not_r wl wr wp wp' wrest dp dl' dr' dwider jp jrest up u i (Spawn c) h

  was_before : (u i : ℕ) (c : ℕ) → graph.Does U' u i (Spawn c) → graph.Does U u i (Spawn c)
  was_before u i c h = elim (before jd wt js es R jd' wt' js' l r p apart not_l not_r wl wr wp wp' wrest dp dl' dr' dwider jp jrest up u i (Spawn c) h) [
    | inl old ↦ old
    | inr new ↦ elim new.1 [
      | inl a ↦ absurd (no_spawn jd wt js es R jd' wt' js' l r p apart not_l not_r wl wr wp wp' wrest dp dl' dr' dwider jp jrest up l c a.1)
      | inr b ↦ absurd (no_spawn jd wt js es R jd' wt' js' l r p apart not_l not_r wl wr wp wp' wrest dp dl' dr' dwider jp jrest up r c b.1)
    ]
  ]

  left_spawn : graph.Does U p (4 * js p) (Spawn l)
  left_spawn = subst (λ k. graph.Does U p k (Spawn l)) (let e : 4 * js p + side_of l ≡ 4 * js p = omega (arith, left) in e) (P.last_fork l p pl dl)

  right_spawn : graph.Does U p (4 * js p + 1) (Spawn r)
  right_spawn = subst (λ k. graph.Does U p (4 * js p + k) (Spawn r)) right (P.last_fork r p pr dr)

  open_size : length (U p) ≡ 4 * js p + 2
  open_size = size_open jd wt js es R jd' wt' js' l r p apart not_l not_r wl wr wp wp' wrest dp dl' dr' dwider jp jrest up

  back_now : (u i c : ℕ) → graph.Does U' u i (Join c) → (j : ℕ) × (i ≡ j + 2) × graph.Does U' u j (Spawn c)
  back_now u i c h = elim (before jd wt js es R jd' wt' js' l r p apart not_l not_r wl wr wp wp' wrest dp dl' dr' dwider jp jrest up u i (Join c) h) [
    | inl old ↦ let b = P.back u i c old in (b.0, b.1, keep_spawn u b.0 c b.2)
    | inr new ↦ elim new.1 [
      | inl a ↦ (4 * js p, a.0, by_child l (4 * js p) (join_child jd wt js es R jd' wt' js' l r p apart not_l not_r wl wr wp wp' wrest dp dl' dr' dwider jp jrest up l c a.1) new.0 left_spawn)
      | inr b ↦ let at = b.0 in (4 * js p + 1, omega (arith, at), by_child r (4 * js p + 1) (join_child jd wt js es R jd' wt' js' l r p apart not_l not_r wl wr wp wp' wrest dp dl' dr' dwider jp jrest up r c b.1) new.0 right_spawn)
    ]
  ]
    where
      by_child : (k j : ℕ) → k ≡ c → u ≡ p → graph.Does U p j (Spawn k) → graph.Does U' u j (Spawn c)
      by_child k j e eu h = subst (λ v. graph.Does U' v j (Spawn c)) (sym eu) (subst (λ x. graph.Does U' p j (Spawn x)) e (keep_spawn p j k h))

  -- the two children that join now
  next_joined : (j c : ℕ) → graph.Does U p j (Spawn c) → length (U p) ≤ j + 2 → graph.Does U' p (j + 2) (Join c)
  next_joined j c h ge =
      let s = open_size in
      let w = slice_get_within (U p) j (Spawn c) h in
      elim (cases_eq j (4 * js p)) [
        | inl e ↦
            let c_is : l ≡ c = same_child U p (4 * js p) l c left_spawn (subst (λ k. graph.Does U p k (Spawn c)) e h) in
            subst (λ k. graph.Does U' p k (Join c)) (let at : 4 * js p + 2 + 0 ≡ j + 2 = omega (arith, e) in at) (subst (λ x. graph.Does U' p (4 * js p + 2 + 0) (Join x)) c_is (left_turn jd wt js es R jd' wt' js' l r p apart not_l not_r wl wr wp wp' wrest dp dl' dr' dwider jp jrest up))
        | inr ne ↦
            let e : j ≡ 4 * js p + 1 = omega (arith, s, w, ge, ne) in
            let c_is : r ≡ c = same_child U p (4 * js p + 1) r c right_spawn (subst (λ k. graph.Does U p k (Spawn c)) e h) in
            subst (λ k. graph.Does U' p k (Join c)) (let at : 4 * js p + 2 + 1 ≡ j + 2 = omega (arith, e) in at) (subst (λ x. graph.Does U' p (4 * js p + 2 + 1) (Join x)) c_is (right_turn jd wt js es R jd' wt' js' l r p apart not_l not_r wl wr wp wp' wrest dp dl' dr' dwider jp jrest up))
      ]

  next_now : (u j c : ℕ) → graph.Does U' u j (Spawn c) → j + 2 < length (U' u) → graph.Does U' u (j + 2) (Join c)
  next_now u j c h lt = elim (cases_lt (j + 2) (length (U u))) [
    | inl old ↦ kept_joined jd wt js es R jd' wt' js' l r p apart not_l not_r wl wr wp wp' wrest dp dl' dr' dwider jp jrest up u (j + 2) (Join c) (P.next u j c (was_before u j c h) old)
    | inr ge ↦ elim (cases_eq u p) [
      | inl e ↦ subst (λ v. graph.Does U' v (j + 2) (Join c)) (sym e) (next_joined j c (subst (λ v. graph.Does U v j (Spawn c)) e (was_before u j c h)) (subst (λ v. length (U v) ≤ j + 2) e ge))
      | inr ne ↦
          let s : length (U' u) ≡ length (U u) = ap length (other_joins jd wt js es R jd' wt' js' l r p apart not_l not_r wl wr wp wp' wrest dp dl' dr' dwider jp jrest up u ne) in
          absurd (omega (arith, lt, ge, s))
    ]
  ]

  was_out : (c : ℕ) → jd' c ≡ false → jd c ≡ false
  was_out c out = was_out_by_cases (jd c) refl
    where
      was_out_by_cases : (b : Bool) → jd c ≡ b → jd c ≡ false
      was_out_by_cases true e = absurd (both_ways (jd' c) out (dwider c e))
      was_out_by_cases false e = e

  -- no other child of the parent is left
  none_left : (c : ℕ) (b : Bool) → is_left c ≡ b → par c ≡ Some p → jd' c ≡ false → ⊥
  none_left c true side pc out =
      let at : graph.Does U p (4 * js p) (Spawn c) = subst (λ k. graph.Does U p k (Spawn c)) (let z : side_of c ≡ 0 = ap (λ b. cond b 0 1) side in let e : 4 * js p + side_of c ≡ 4 * js p = omega (arith, z) in e) (P.last_fork c p pc (was_out c out)) in
      both_ways (jd' c) out (ap jd' (same_child U p (4 * js p) c l at left_spawn) ∙ dl')
  none_left c false side pc out =
      let at : graph.Does U p (4 * js p + 1) (Spawn c) = subst (λ k. graph.Does U p (4 * js p + k) (Spawn c)) (ap (λ b. cond b 0 1) side) (P.last_fork c p pc (was_out c out)) in
      both_ways (jd' c) out (ap jd' (same_child U p (4 * js p + 1) c r at right_spawn) ∙ dr')

  fork_left : (c q : ℕ) → par c ≡ Some q → jd' c ≡ false → graph.Does U' q (4 * js' q + side_of c) (Spawn c)
  fork_left c q pc out = elim (cases_eq q p) [
    | inl e ↦ absurd (none_left c (is_left c) refl (pc ∙ ap (λ k. Some k) e) out)
    | inr ne ↦ subst (λ k. graph.Does U' q (4 * k + side_of c) (Spawn c)) (sym (jrest q ne)) (keep_spawn q (4 * js q + side_of c) c (P.last_fork c q pc (was_out c out)))
  ]

  pub joins_keep_pairs : Pairs n par jd' js' U'
  joins_keep_pairs = record {
    below = λ u i c h. P.below u i c (was_before u i c h);
    once = λ c u i u' i' h h'. P.once c u i u' i' (was_before u i c h) (was_before u' i' c h');
    back = back_now;
    next = next_now;
    last_fork = fork_left;
    made = λ c some few. let m = P.made c some few in (m.0, m.1, m.2, keep_spawn m.0 m.1 c m.3);
  }
