-- A bound happens before exactly what all of its strands happen before.
use Rattle.race_report.proofs.Common.{◌≡◌, ℕ, ◌<◌, ◌≤◌, Bool, true, false, cond, not, ◌||◌, ◌&&◌, ◌==◌, List, [], ◌∷◌, ◌++◌, nat_lt, refl, ap, sym, ◌∙◌, arith, eq-eqb, eqb-true, ne_eqb, inl, inr, cases_lt, cases_eq, and-false, and-true, In, Strand, FieldAccess, Seen, Bound, Open, allows, bound_allows, joined_bound, label_precedes, under, has_alike, bound_for, bound_with, clash, clashes, with_first, with_access}
use Rattle.race_report.proofs.Compared.{branches}
use Rattle.race_report.proofs.Clashes.{as_bound}

-- FIRST STRANDS, AND THE REST BY THE REST

-- three counts of joins: the bound's, the label's, and that of what follows
both_less : (i j k : ℕ) (a b : Bool) → i < j → (nat_lt j k || ((j == k) && b)) ≡ ((nat_lt i k || ((i == k) && a)) && (nat_lt j k || ((j == k) && b)))
both_less i j k a b lt =
    elim (cases_lt k j) [
      | inl before ↦ low before
      | inr ge ↦ high ge
    ]
  where
    low : k < j → (nat_lt j k || ((j == k) && b)) ≡ ((nat_lt i k || ((i == k) && a)) && (nat_lt j k || ((j == k) && b)))
    low before =
        let f : nat_lt j k ≡ false = search arith in
        let g : (j == k) ≡ false = ne_eqb j k (λ e. omega arith) in
        let z : (nat_lt j k || ((j == k) && b)) ≡ false = ap (λ x. x || ((j == k) && b)) f ∙ ap (λ x. x && b) g in
        z ∙ sym (ap (λ x. (nat_lt i k || ((i == k) && a)) && x) z ∙ and-false (nat_lt i k || ((i == k) && a)))

    high : j ≤ k → (nat_lt j k || ((j == k) && b)) ≡ ((nat_lt i k || ((i == k) && a)) && (nat_lt j k || ((j == k) && b)))
    high ge =
        let t : nat_lt i k ≡ true = let l : i < k = omega arith in search arith in
        sym (ap (λ x. (x || ((i == k) && a)) && (nat_lt j k || ((j == k) && b))) t)

and_swap : (a b : Bool) → (a && b) ≡ (b && a)
and_swap true true = refl
and_swap true false = refl
and_swap false true = refl
and_swap false false = refl

both_same : (i k : ℕ) (a b : Bool) → (nat_lt i k || ((i == k) && (a && b))) ≡ ((nat_lt i k || ((i == k) && a)) && (nat_lt i k || ((i == k) && b)))
both_same i k a b = both_same_by_cases (nat_lt i k) (i == k) a b
  where
    both_same_by_cases : (x y a b : Bool) → (x || (y && (a && b))) ≡ ((x || (y && a)) && (x || (y && b)))
    both_same_by_cases true y a b = refl
    both_same_by_cases false true a b = refl
    both_same_by_cases false false a b = refl

abbrev head : Strand → Strand → Bool → Bool
head u w b = (u.task == w.task) && (nat_lt u.joins w.joins || ((u.joins == w.joins) && b))

heads_same_task : (u v w : Strand) → u.task ≡ v.task → (x y z : Bool)
    → ((nat_lt v.joins w.joins || ((v.joins == w.joins) && z)) ≡ ((nat_lt u.joins w.joins || ((u.joins == w.joins) && x)) && (nat_lt v.joins w.joins || ((v.joins == w.joins) && y))))
    → head v w z ≡ (head u w x && head v w y)
heads_same_task u v w e x y z h =
    ap (λ t. (v.task == w.task) && t) h ∙ (heads_same_task_by_cases (v.task == w.task) _ _ ∙ ap (λ t. ((t == w.task) && (nat_lt u.joins w.joins || ((u.joins == w.joins) && x))) && head v w y) (sym e))
  where
    heads_same_task_by_cases : (t p q : Bool) → (t && (p && q)) ≡ ((t && p) && (t && q))
    heads_same_task_by_cases true p q = refl
    heads_same_task_by_cases false p q = refl

heads_apart : (u v w : Strand) → (u.task ≡ v.task → ⊥) → (x y : Bool) → (head u w x && head v w y) ≡ false
heads_apart u v w ne x y = heads_apart_by_cases (u.task == w.task) refl
  where
    heads_apart_by_cases : (t : Bool) → (u.task == w.task) ≡ t → ((t && (nat_lt u.joins w.joins || ((u.joins == w.joins) && x))) && head v w y) ≡ false
    heads_apart_by_cases false e = refl
    heads_apart_by_cases true e =
        let uw : u.task ≡ w.task = eqb-true u.task w.task e in
        let f : (v.task == w.task) ≡ false = ne_eqb v.task w.task (λ vw. ne (uw ∙ sym vw)) in
        ap (λ b. (nat_lt u.joins w.joins || ((u.joins == w.joins) && x)) && (b && (nat_lt v.joins w.joins || ((v.joins == w.joins) && y)))) f
        ∙ and-false (nat_lt u.joins w.joins || ((u.joins == w.joins) && x))

-- WITH ONE MORE LABEL

abbrev pub Both : List Strand → Bool → List Strand → Type 0
Both us s vs = (ws : List Strand) → allows (joined_bound us s vs) ws ≡ (bound_allows us s ws && bound_allows vs false ws)

module _ (s : Bool) (u v : Strand) (us vs : List Strand) (rest : Both us s vs) where
  when_apart : (u.task ≡ v.task → ⊥) → Both (u ∷ us) s (v ∷ vs)
  when_apart ne ws =
      ap (λ x. allows x ws) (branches s u v us vs false (nat_lt u.joins v.joins) (nat_lt v.joins u.joins) (ne_eqb u.task v.task ne) refl refl) ∙ when_apart_by_cases ws
    where
      when_apart_by_cases : (ws : List Strand) → bound_allows [] true ws ≡ (bound_allows (u ∷ us) s ws && bound_allows (v ∷ vs) false ws)
      when_apart_by_cases [] = refl
      when_apart_by_cases (w ∷ ws) = sym (heads_apart u v w ne (bound_allows us s ws) (bound_allows vs false ws))

  when_less : u.task ≡ v.task → u.joins < v.joins → Both (u ∷ us) s (v ∷ vs)
  when_less e lt ws =
      ap (λ x. allows x ws) (branches s u v us vs true true (nat_lt v.joins u.joins) (eq-eqb u.task v.task e) (search arith) refl) ∙ when_less_by_cases ws
    where
      when_less_by_cases : (ws : List Strand) → bound_allows (v ∷ vs) false ws ≡ (bound_allows (u ∷ us) s ws && bound_allows (v ∷ vs) false ws)
      when_less_by_cases [] = refl
      when_less_by_cases (w ∷ ws) =
          heads_same_task u v w e (bound_allows us s ws) (bound_allows vs false ws) (bound_allows vs false ws)
          (both_less u.joins v.joins w.joins (bound_allows us s ws) (bound_allows vs false ws) lt)

  when_more : u.task ≡ v.task → v.joins < u.joins → Both (u ∷ us) s (v ∷ vs)
  when_more e lt ws =
      ap (λ x. allows x ws) (branches s u v us vs true false true (eq-eqb u.task v.task e) (let f : nat_lt u.joins v.joins ≡ false = search arith in f) (search arith)) ∙ when_more_by_cases ws
    where
      when_more_by_cases : (ws : List Strand) → bound_allows (u ∷ us) s ws ≡ (bound_allows (u ∷ us) s ws && bound_allows (v ∷ vs) false ws)
      when_more_by_cases [] = refl
      when_more_by_cases (w ∷ ws) =
          heads_same_task v u w (sym e) (bound_allows vs false ws) (bound_allows us s ws) (bound_allows us s ws)
          (both_less v.joins u.joins w.joins (bound_allows vs false ws) (bound_allows us s ws) lt)
          ∙ and_swap (head v w (bound_allows vs false ws)) (head u w (bound_allows us s ws))

  when_same : u.task ≡ v.task → u.joins ≡ v.joins → Both (u ∷ us) s (v ∷ vs)
  when_same e same ws =
      ap (λ x. allows x ws) (branches s u v us vs true false false (eq-eqb u.task v.task e) (let f : nat_lt u.joins v.joins ≡ false = search arith in f) (let g : nat_lt v.joins u.joins ≡ false = search arith in g)) ∙ when_same_by_cases ws
    where
      one : u ≡ v
      one = λ i. record { task = e i; joins = same i }

      when_same_by_cases : (ws : List Strand) → allows (under u (joined_bound us s vs)) ws ≡ (bound_allows (u ∷ us) s ws && bound_allows (v ∷ vs) false ws)
      when_same_by_cases [] = refl
      when_same_by_cases (w ∷ ws) =
          ap (head u w) (rest ws)
          ∙ (heads_same_task u u w refl (bound_allows us s ws) (bound_allows vs false ws) (bound_allows us s ws && bound_allows vs false ws)
          (both_same u.joins w.joins (bound_allows us s ws) (bound_allows vs false ws))
          ∙ ap (λ x. head u w (bound_allows us s ws) && head x w (bound_allows vs false ws)) one)

pub joined_allows : (us : List Strand) (s : Bool) (vs : List Strand) → Both us s vs
joined_allows [] false vs ws = refl
joined_allows [] true vs ws = refl
joined_allows (u ∷ us) s [] ws = sym (and-true (bound_allows (u ∷ us) s ws))
joined_allows (u ∷ us) s (v ∷ vs) ws =
    let rest = joined_allows us s vs in
    elim (cases_eq u.task v.task) [
      | inr ne ↦ when_apart s u v us vs rest ne ws
      | inl e ↦ elim (cases_lt u.joins v.joins) [
        | inl lt ↦ when_less s u v us vs rest e lt ws
        | inr ge ↦ elim (cases_eq u.joins v.joins) [
          | inl same ↦ when_same s u v us vs rest e same ws
          | inr ne ↦ when_more s u v us vs rest e (let lt : v.joins < u.joins = omega arith in lt) ws
        ]
      ]
    ]

-- BOUNDS OF SOME ACCESSES

-- all of the chosen accesses happen before this label
abbrev pub all_before : (FieldAccess → Bool) → List Seen → List Strand → Bool
all_before chosen [] label = true
all_before chosen (u ∷ us) label = (not (chosen u.access) || label_precedes u.label label) && all_before chosen us label

pub all_before_push : (chosen : FieldAccess → Bool) (us : List Seen) (x : Seen) (label : List Strand) → all_before chosen (us ++ x ∷ []) label ≡ (all_before chosen us label && (not (chosen x.access) || label_precedes x.label label))
all_before_push chosen [] x label = and-true (not (chosen x.access) || label_precedes x.label label)
all_before_push chosen (u ∷ us) x label =
    ap (λ b. (not (chosen u.access) || label_precedes u.label label) && b) (all_before_push chosen us x label) ∙ assoc (not (chosen u.access) || label_precedes u.label label) (all_before chosen us label) _
  where
    assoc : (a b c : Bool) → (a && (b && c)) ≡ ((a && b) && c)
    assoc true b c = refl
    assoc false b c = refl

abbrev pub Means : (FieldAccess → Bool) → Bound → List Seen → Type 0
Means chosen b us = (label : List Strand) → allows b label ≡ all_before chosen us label

pub means_more : (chosen : FieldAccess → Bool) (b : Bound) (us : List Seen) (x : Seen) → Means chosen b us → Means chosen (bound_with (chosen x.access) b x.label) (us ++ x ∷ [])
means_more chosen b us x M label = means_more_by_cases (chosen x.access) ∙ sym (all_before_push chosen us x label)
  where
    means_more_by_cases : (t : Bool) → allows (bound_with t b x.label) label ≡ (all_before chosen us label && (not t || label_precedes x.label label))
    means_more_by_cases true = joined_allows b.label b.strict x.label label ∙ (ap (λ w. w && bound_allows x.label false label) (M label) ∙ ap (λ w. all_before chosen us label && w) (as_bound x.label label))
    means_more_by_cases false = M label ∙ sym (and-true (all_before chosen us label))

pub record Bounds (o : Open) : Type 0 where
  pub all : Means (λ a. true) o.all o.earlier
  pub writes : Means (λ a. a.writes) o.writes o.earlier
  pub plain : Means (λ a. not a.swaps) o.plain o.earlier
  pub plain_writes : Means (λ a. a.writes && not a.swaps) o.plain_writes o.earlier

bounds_first : (o : Open) (x : Seen) → Bounds o → Bounds (with_first o x)
bounds_first o x B = record {
  all = means_more (λ a. true) o.all o.earlier x B.all;
  writes = means_more (λ a. a.writes) o.writes o.earlier x B.writes;
  plain = means_more (λ a. not a.swaps) o.plain o.earlier x B.plain;
  plain_writes = means_more (λ a. a.writes && not a.swaps) o.plain_writes o.earlier x B.plain_writes;
}

pub bounds_more : (o : Open) (x : Seen) → Bounds o → Bounds (with_access o x)
bounds_more o x B = bounds_more_by_cases (has_alike o.earlier x.access)
  where
    bounds_more_by_cases : (b : Bool) → Bounds (cond b o (with_first o x))
    bounds_more_by_cases true = B
    bounds_more_by_cases false = bounds_first o x B

same_chosen : (f g : FieldAccess → Bool) → ((a : FieldAccess) → f a ≡ g a) → (us : List Seen) (label : List Strand) → all_before f us label ≡ all_before g us label
same_chosen f g same [] label = refl
same_chosen f g same (u ∷ us) label =
    ap (λ b. (not b || label_precedes u.label label) && all_before f us label) (same u.access) ∙ ap (λ b. (not (g u.access) || label_precedes u.label label) && b) (same_chosen f g same us label)

-- the bound for an access happens before its label if and only if all accesses that it clashes with do
pub bound_tells : (o : Open) → Bounds o → (v : FieldAccess) (label : List Strand) → allows (bound_for o v) label ≡ all_before (λ u. clash u v) o.earlier label
bound_tells o B v label = bound_tells_by_cases v.writes v.swaps
  where
    bound_tells_by_cases : (w s : Bool) → allows (cond w (cond s o.plain o.all) (cond s o.plain_writes o.writes)) label ≡ all_before (λ u. (u.writes || w) && not (u.swaps && s)) o.earlier label
    bound_tells_by_cases true true = B.plain label ∙ same_chosen _ _ (λ a. one a.writes a.swaps) o.earlier label
      where
        one : (a b : Bool) → not b ≡ ((a || true) && not (b && true))
        one true true = refl
        one true false = refl
        one false true = refl
        one false false = refl
    bound_tells_by_cases true false = B.all label ∙ same_chosen _ _ (λ a. one a.writes a.swaps) o.earlier label
      where
        one : (a b : Bool) → true ≡ ((a || true) && not (b && false))
        one true true = refl
        one true false = refl
        one false true = refl
        one false false = refl
    bound_tells_by_cases false true = B.plain_writes label ∙ same_chosen _ _ (λ a. one a.writes a.swaps) o.earlier label
      where
        one : (a b : Bool) → (a && not b) ≡ ((a || false) && not (b && true))
        one true true = refl
        one true false = refl
        one false true = refl
        one false false = refl
    bound_tells_by_cases false false = B.writes label ∙ same_chosen _ _ (λ a. one a.writes a.swaps) o.earlier label
      where
        one : (a b : Bool) → a ≡ ((a || false) && not (b && false))
        one true true = refl
        one true false = refl
        one false true = refl
        one false false = refl

-- so it races with no earlier one
pub none_clashes : (us : List Seen) (v : Seen) → all_before (λ u. clash u v.access) us v.label ≡ true → (u : Seen) → In us u → clashes u v ≡ false
none_clashes [] v h u i = absurd i
none_clashes (y ∷ us) v h u (inl e) = ap (λ (z : Seen). clashes z v) (sym e) ∙ none_clashes_by_cases (clash y.access v.access) (label_precedes y.label v.label) h
  where
    none_clashes_by_cases : (c p : Bool) → ((not c || p) && all_before (λ u. clash u v.access) us v.label) ≡ true → (c && not p) ≡ false
    none_clashes_by_cases true true h = refl
    none_clashes_by_cases true false h = absurd cc
    none_clashes_by_cases false p h = refl
none_clashes (y ∷ us) v h u (inr i) = none_clashes us v (none_clashes_by_cases (not (clash y.access v.access) || label_precedes y.label v.label) h) u i
  where
    none_clashes_by_cases : (a : Bool) → (a && all_before (λ u. clash u v.access) us v.label) ≡ true → all_before (λ u. clash u v.access) us v.label ≡ true
    none_clashes_by_cases true h = h
    none_clashes_by_cases false h = absurd cc
