-- The search for the tasks that the root's spawns lead to.
use Rattle.fork_graph.proofs.Common.{◌≡◌, ℕ, zero, suc, ◌+◌, ◌<◌, ◌≤◌, Bool, true, false, List, [], ◌∷◌, ◌++◌, length, ◌⊎◌, inl, inr, refl, ap, sym, subst, ◌∙◌, arith, Option, Some, None, slice_get, slice_set, replicate, cases_eq, length-set, length-append, length-replicate, get_or_from_slice_get, In, got_same, got_other, in_append_left, in_append_right, in_append_cases, got_none, none_some, IsWalk, GraphTurn, Spawn, Join, SpawnSearch, TaskTurns, tasks_in, Does, IsParent, IsAncestor, spawned_by, met_from, meet, meet_children, IsMet, AreReached}
use Rattle.fork_graph.proofs.Cut.{spawned_from, spawned_at}

-- tasks that weren't met yet
abbrev pub unmet : List Bool → ℕ
unmet [] = 0
unmet (true ∷ rest) = unmet rest
unmet (false ∷ rest) = suc (unmet rest)

unmet_set : (met : List Bool) (c : ℕ) → slice_get met c ≡ Some false → suc (unmet (slice_set met c true)) ≡ unmet met
unmet_set [] c e = none_some e
unmet_set (true ∷ rest) zero e = absurd cc
unmet_set (false ∷ rest) zero e = refl
unmet_set (true ∷ rest) (suc c) e = unmet_set rest c e
unmet_set (false ∷ rest) (suc c) e = ap suc (unmet_set rest c e)

-- what is left to do
abbrev pub left : SpawnSearch → ℕ
left s = unmet s.met + length s.waiting

-- of some tasks those that weren't met were, and wait
pub record Meets (children : List ℕ) (s s' : SpawnSearch) : Type 0 where
  pub size : length s'.met ≡ length s.met
  pub weight : left s' ≡ left s
  pub kept : (x : ℕ) → IsMet s.met x → IsMet s'.met x
  pub still : (x : ℕ) → In s.waiting x → In s'.waiting x
  pub fresh : (x : ℕ) → IsMet s'.met x → IsMet s.met x ⊎ (In s'.waiting x × In children x)
  pub waits : (x : ℕ) → In s'.waiting x → In s.waiting x ⊎ IsMet s'.met x
  pub all : (c : ℕ) → In children c → c < length s.met → IsMet s'.met c

meets_none : (s : SpawnSearch) → Meets [] s s
meets_none s = record {
  size = refl;
  weight = refl;
  kept = λ x m. m;
  still = λ x i. i;
  fresh = λ x m. inl m;
  waits = λ x i. inl i;
  all = λ c i lt. absurd i;
}

meets_both : (xs ys : List ℕ) (a b c : SpawnSearch) → Meets xs a b → Meets ys b c → Meets (xs ++ ys) a c
meets_both xs ys a b c f g = record {
  size = g.size ∙ f.size;
  weight = g.weight ∙ f.weight;
  kept = λ x m. g.kept x (f.kept x m);
  still = λ x i. g.still x (f.still x i);
  fresh = λ x m. elim (g.fresh x m) [
    | inl old ↦ elim (f.fresh x old) [ inl older ↦ inl older | inr (w, i) ↦ inr (g.still x w, in_append_left xs ys x i) ]
    | inr (w, i) ↦ inr (w, in_append_right xs ys x i)
  ];
  waits = λ x i. elim (g.waits x i) [
    | inl old ↦ elim (f.waits x old) [ inl older ↦ inl older | inr m ↦ inr (g.kept x m) ]
    | inr m ↦ inr m
  ];
  all = λ x i lt. elim (in_append_cases xs ys x i) [
    | inl first ↦ g.kept x (f.all x first lt)
    | inr second ↦ g.all x second (subst (λ n. x < n) (sym f.size) lt)
  ];
}

meet_new : (s : SpawnSearch) (c : ℕ) → slice_get s.met c ≡ Some false → Meets (c ∷ []) s (record { met = slice_set s.met c true; waiting = s.waiting ++ c ∷ [] })
meet_new s c e =
    let w : suc (unmet (slice_set s.met c true)) ≡ unmet s.met = unmet_set s.met c e in
    let l : length (s.waiting ++ c ∷ []) ≡ length s.waiting + 1 = length-append s.waiting (c ∷ []) in
    record {
      size = length-set s.met c true;
      weight = omega arith;
      kept = λ x m. elim (cases_eq x c) [
        | inl same ↦ subst (λ y. IsMet (slice_set s.met c true) y) (sym same) (got_same s.met c false true e)
        | inr other ↦ got_other s.met c x true other ∙ m
      ];
      still = λ x i. in_append_left s.waiting (c ∷ []) x i;
      fresh = λ x m. elim (cases_eq x c) [
        | inl same ↦ inr (in_append_right s.waiting (c ∷ []) x (inl (sym same)), inl (sym same))
        | inr other ↦ inl (sym (got_other s.met c x true other) ∙ m)
      ];
      waits = λ x i. elim (in_append_cases s.waiting (c ∷ []) x i) [
        | inl old ↦ inl old
        | inr new ↦ elim new [
          | inl same ↦ inr (subst (λ y. IsMet (slice_set s.met c true) y) same (got_same s.met c false true e))
          | inr none ↦ absurd none
        ]
      ];
      all = λ x i lt. elim i [
        | inl same ↦ subst (λ y. IsMet (slice_set s.met c true) y) same (got_same s.met c false true e)
        | inr none ↦ absurd none
      ];
    }

meet_same : (s : SpawnSearch) (c : ℕ) → ((x : ℕ) → In (c ∷ []) x → x < length s.met → IsMet s.met x) → Meets (c ∷ []) s s
meet_same s c all = record {
  size = refl;
  weight = refl;
  kept = λ x m. m;
  still = λ x i. i;
  fresh = λ x m. inl m;
  waits = λ x i. inl i;
  all = all;
}

met_by : (s : SpawnSearch) (c : ℕ) (o : Option Bool) → slice_get s.met c ≡ o → Meets (c ∷ []) s (met_from s c o)
met_by s c (Some false) e = meet_new s c e
met_by s c (Some true) e = meet_same s c (λ x i lt. elim i [ inl same ↦ subst (λ y. IsMet s.met y) same e | inr none ↦ absurd none ])
met_by s c None e = meet_same s c (λ x i lt. elim i [
  | inl same ↦ absurd (got_none s.met c (subst (λ y. y < length s.met) (sym same) lt) e)
  | inr none ↦ absurd none
])

pub meet_meets : (s : SpawnSearch) (c : ℕ) → Meets (c ∷ []) s (meet s c)
meet_meets s c = met_by s c (slice_get s.met c) refl

pub children_meet : (turns : List GraphTurn) (s : SpawnSearch) → Meets (spawned_by turns) s (meet_children s turns)
children_meet [] s = meets_none s
children_meet (Spawn c ∷ rest) s = meets_both (c ∷ []) (spawned_by rest) s (meet s c) (meet_children (meet s c) rest) (meet_meets s c) (children_meet rest (meet s c))
children_meet (Join c ∷ rest) s = children_meet rest s

-- THE WHOLE SEARCH

-- all that is met is reached, and each child of what is met is met or will be
pub record IsSearched (tasks : TaskTurns) (n : ℕ) (s : SpawnSearch) : Type 0 where
  pub size : length s.met ≡ n
  pub sound : (t : ℕ) → IsMet s.met t → IsAncestor tasks 0 t
  pub waits : (t : ℕ) → In s.waiting t → IsMet s.met t
  pub root : 0 < n → IsMet s.met 0
  pub followed : (t c : ℕ) → IsMet s.met t → IsParent tasks t c → c < n → IsMet s.met c ⊎ In s.waiting t

none_met : (n x : ℕ) {A : Type 0} → slice_get (replicate n false) x ≡ Some true → A
none_met zero x e = none_some e
none_met (suc n) zero e = absurd cc
none_met (suc n) (suc x) e = none_met n x e

pub search_start : (tasks : TaskTurns) (n : ℕ) → IsSearched tasks n (meet (record { met = replicate n false; waiting = [] }) 0)
search_start tasks n =
    let s : SpawnSearch = record { met = replicate n false; waiting = [] } in
    let f = meet_meets s 0 in
    let only : (x : ℕ) → IsMet (meet s 0).met x → In (meet s 0).waiting x × (0 ≡ x) = λ x m. elim (f.fresh x m) [
      | inl old ↦ none_met n x old
      | inr (w, i) ↦ (w, elim i [ inl same ↦ same | inr none ↦ absurd none ])
    ] in
    let size : length s.met ≡ n = length-replicate n false in
    record {
      size = f.size ∙ size;
      sound = λ t m. (zero, sym (only t m).1);
      waits = λ t i. elim (f.waits t i) [ inl old ↦ absurd old | inr m ↦ m ];
      root = λ lt. f.all 0 (inl refl) (subst (λ k. 0 < k) (sym size) lt);
      followed = λ t c m e lt. inr (only t m).0;
    }

-- a task that waits is followed
pub search_step : (tasks : TaskTurns) (n t : ℕ) (before popped after : SpawnSearch) → before.met ≡ popped.met → before.waiting ≡ popped.waiting ++ t ∷ []
    → Meets (spawned_by (tasks t)) popped after → IsSearched tasks n before → IsSearched tasks n after
search_step tasks n t before popped after em ew f s =
    let met : IsMet popped.met t = subst (λ m. IsMet m t) em (s.waits t (subst (λ w. In w t) (sym ew) (in_append_right popped.waiting (t ∷ []) t (inl refl)))) in
    let up : IsAncestor tasks 0 t = s.sound t (subst (λ m. IsMet m t) (sym em) met) in
    let still : (x : ℕ) → In before.waiting x → In after.waiting x ⊎ (t ≡ x) = λ x i. elim (in_append_cases popped.waiting (t ∷ []) x (subst (λ w. In w x) ew i)) [
      | inl old ↦ inl (f.still x old)
      | inr last ↦ elim last [ inl same ↦ inr same | inr none ↦ absurd none ]
    ] in
    let child : (c i : ℕ) → Does tasks t i (Spawn c) → c < n → IsMet after.met c = λ c i h lt.
    f.all c (spawned_from (tasks t) i c h) (subst (λ m. c < length m) em (subst (λ k. c < k) (sym s.size) lt)) in
    record {
      size = f.size ∙ (ap length (sym em) ∙ s.size);
      sound = λ x m. elim (f.fresh x m) [
        | inl old ↦ s.sound x (subst (λ ms. IsMet ms x) (sym em) old)
        | inr (w, i) ↦ let at = spawned_at (tasks t) x i in (suc up.0, (t, up.1, (at.0, at.1)))
      ];
      waits = λ x i. elim (f.waits x i) [
        | inl old ↦ f.kept x (subst (λ ms. IsMet ms x) em (s.waits x (subst (λ w. In w x) (sym ew) (in_append_left popped.waiting (t ∷ []) x old))))
        | inr m ↦ m
      ];
      root = λ lt. f.kept 0 (subst (λ ms. IsMet ms 0) em (s.root lt));
      followed = λ x c m e lt. elim (f.fresh x m) [
        | inr (w, i) ↦ inr w
        | inl old ↦ elim (s.followed x c (subst (λ ms. IsMet ms x) (sym em) old) e lt) [
          | inl done ↦ inl (f.kept c (subst (λ ms. IsMet ms c) em done))
          | inr waiting ↦ elim (still x waiting) [
            | inl on ↦ inr on
            | inr same ↦ inl (child c e.0 (subst (λ y. Does tasks y e.0 (Spawn c)) (sym same) e.1) lt)
          ]
        ]
      ];
    }

-- a task past the list's end has no children
pub past_no_turn : (rows : List (List GraphTurn)) (t i : ℕ) (turn : GraphTurn) → Does (tasks_in rows) t i turn → t < length rows
past_no_turn [] t i turn h = none_some h
past_no_turn (row ∷ rows) zero i turn h = omega arith
past_no_turn (row ∷ rows) (suc t) i turn h = let lt : t < length rows = past_no_turn rows t i turn h in omega arith

pub no_children : (rows : List (List GraphTurn)) (t : ℕ) → length rows ≤ t → tasks_in rows t ≡ []
no_children [] t le = refl
no_children (row ∷ rows) zero le = absurd (omega arith)
no_children (row ∷ rows) (suc t) le = no_children rows t (omega arith)

pub search_end : (rows : List (List GraphTurn)) (s : SpawnSearch) → s.waiting ≡ [] → IsSearched (tasks_in rows) (length rows) s → AreReached (tasks_in rows) (length rows) s.met
search_end rows s over f = record {
  size = f.size;
  sound = f.sound;
  complete = λ t lt w. complete w.0 t lt w.1;
}
  where
    complete : (k t : ℕ) → t < length rows → IsWalk (λ x. x ≡ 0) (IsParent (tasks_in rows)) k t → IsMet s.met t
    complete zero t lt e = subst (IsMet s.met) (sym e) (f.root (subst (λ x. x < length rows) e lt))
    complete (suc k) t lt w =
        let up : w.0 < length rows = past_no_turn rows w.0 w.2.0 (Spawn t) w.2.1 in
        elim (f.followed w.0 t (complete k w.0 up w.1) w.2 lt) [
          | inl done ↦ done
          | inr waiting ↦ absurd (subst (λ ws. In ws w.0) over waiting)
        ]

-- the turns of a row
pub row_is : (rows : List (List GraphTurn)) (t : ℕ) (row : List GraphTurn) → slice_get rows t ≡ Some row → tasks_in rows t ≡ row
row_is rows t row h = get_or_from_slice_get rows t row [] h

pub no_row : (rows : List (List GraphTurn)) (t : ℕ) → slice_get rows t ≡ None → tasks_in rows t ≡ []
no_row [] t h = refl
no_row (row ∷ rows) zero h = absurd cc
no_row (row ∷ rows) (suc t) h = no_row rows t h
