-- What is reached is what walks lead to.
use Rattle.run_ledger.proofs.Common.{◌≡◌, ℕ, zero, suc, ◌≤◌, Bool, true, false, cond, ◌||◌, List, [], ◌∷◌, length, filter, ◌⊎◌, inl, inr, refl, ap, sym, ◌∙◌, subst, arith, list_any, or_cases, or_left, or_right, false≢true, cases_lt, Name, Object, refs_at, reached_start, reached_within, reached_more as walk_more, In, in_from_contains, contains_from_in, in_kept, in_from_kept, any_from_in, in_from_any, holds_name, once_more, reached_by, reached, StartsWithin, LeadsWithin, IsReachedWithin, ReachedIsWalks}
use Rattle.run_ledger.proofs.Members.{in_from_holds, holds_from_in}

length_step : {A : Type 0} (p q : A → Bool) (x : A) (xs : List A) → (p x ≡ true → q x ≡ true) → length (filter p xs) ≤ length (filter q xs)
    → (b c : Bool) → p x ≡ b → q x ≡ c → length (cond b (x ∷ filter p xs) (filter p xs)) ≤ length (cond c (x ∷ filter q xs) (filter q xs))
length_step p q x xs more rest true true is is' = omega arith
length_step p q x xs more rest true false is is' = absurd (false≢true (sym is' ∙ more is))
length_step p q x xs more rest false true is is' = omega arith
length_step p q x xs more rest false false is is' = omega arith

-- a weaker test keeps at least as many
pub length_weaker : {A : Type 0} (p q : A → Bool) (xs : List A) → ((x : A) → In xs x → p x ≡ true → q x ≡ true) → length (filter p xs) ≤ length (filter q xs)
length_weaker p q [] more = omega arith
length_weaker p q (x ∷ xs) more = length_step p q x xs (more x (inl refl)) (length_weaker p q xs (λ y h. more y (inr h))) (p x) (q x) refl refl

same_step : {A : Type 0} (p q : A → Bool) (x : A) (xs : List A) → (p x ≡ true → q x ≡ true) → length (filter p xs) ≤ length (filter q xs)
    → (length (filter q xs) ≤ length (filter p xs) → filter p xs ≡ filter q xs)
    → (b c : Bool) → p x ≡ b → q x ≡ c → length (cond c (x ∷ filter q xs) (filter q xs)) ≤ length (cond b (x ∷ filter p xs) (filter p xs)) → cond b (x ∷ filter p xs) (filter p xs) ≡ cond c (x ∷ filter q xs) (filter q xs)
same_step p q x xs more le rest true true is is' h = ap (λ ys. x ∷ ys) (rest (omega arith))
same_step p q x xs more le rest true false is is' h = absurd (false≢true (sym is' ∙ more is))
same_step p q x xs more le rest false true is is' h = absurd (omega arith)
same_step p q x xs more le rest false false is is' h = rest (omega arith)

-- and keeps the same ones, if equally many
pub same_weaker : {A : Type 0} (p q : A → Bool) (xs : List A) → ((x : A) → In xs x → p x ≡ true → q x ≡ true) → length (filter q xs) ≤ length (filter p xs) → filter p xs ≡ filter q xs
same_weaker p q [] more h = refl
same_weaker p q (x ∷ xs) more h =
    same_step p q x xs (more x (inl refl)) (length_weaker p q xs (λ y i. more y (inr i))) (same_weaker p q xs (λ y i. more y (inr i))) (p x) (q x) refl refl h

all_step : {A : Type 0} (p : A → Bool) (x : A) (xs : List A) → length (filter p xs) ≤ length xs → (b : Bool) → length (cond b (x ∷ filter p xs) (filter p xs)) ≤ suc (length xs)
all_step p x xs rest true = omega arith
all_step p x xs rest false = omega arith

pub length_kept : {A : Type 0} (p : A → Bool) (xs : List A) → length (filter p xs) ≤ length xs
length_kept p [] = omega arith
length_kept p (x ∷ xs) = all_step p x xs (length_kept p xs) (p x)

module _ (store : List (List Object)) (names roots : List Name) where
  -- the test of one round
  abbrev test : ℕ → Name → Bool
  test zero n = holds_name roots n
  test (suc k) n = holds_name (reached_by store names roots k) n || list_any (λ m. holds_name (refs_at store m) n) (reached_by store names roots k)

  by_test : (k : ℕ) → reached_by store names roots k ≡ filter (test k) names
  by_test zero = refl
  by_test (suc k) = refl

  more : (k : ℕ) (n : Name) → In names n → test k n ≡ true → test (suc k) n ≡ true
  more k n i h = or_left _ _ (holds_from_in (reached_by store names roots k) n (subst (λ ns. In ns n) (sym (by_test k)) (in_kept (test k) names n i h)))

  up : (k : ℕ) (n : Name) → In (reached_by store names roots k) n → In (reached_by store names roots (suc k)) n
  up k n h =
      let r = in_from_kept (test k) names n (subst (λ ns. In ns n) (by_test k) h) in
      in_kept (test (suc k)) names n r.0 (more k n r.0 r.1)

  round_is_last : (k : ℕ) → length (reached_by store names roots (suc k)) ≤ length (reached_by store names roots k) → reached_by store names roots k ≡ reached_by store names roots (suc k)
  round_is_last k h = by_test k ∙ same_weaker (test k) (test (suc k)) names (more k) (omega (arith, ap length (by_test k)))

  stays_or_grows : (k : ℕ) → (reached_by store names roots k ≡ reached_by store names roots (suc k)) ⊎ (k ≤ length (reached_by store names roots k))
  stays_or_grows zero = inr (omega arith)
  stays_or_grows (suc k) =
      elim (stays_or_grows k) [
        | inl e ↦ inl (ap (once_more store names) e)
        | inr le ↦ elim (cases_lt (length (reached_by store names roots k)) (length (reached_by store names roots (suc k)))) [
          | inl lt ↦ inr (omega arith)
          | inr ge ↦ inl (ap (once_more store names) (round_is_last k ge))
        ]
      ]

  stays : reached_by store names roots (length names) ≡ reached_by store names roots (suc (length names))
  stays =
      elim (stays_or_grows (length names)) [
        | inl e ↦ e
        | inr le ↦ round_is_last (length names) (omega (arith, length_kept (test (suc (length names))) names))
      ]

  from_start : (k : ℕ) (n : Name) → In (reached_by store names roots zero) n → In (reached_by store names roots k) n
  from_start zero n h = h
  from_start (suc k) n h = up k n (from_start k n h)

  pub reached_root : (n : Name) → In names n → In roots n → In (reached store names roots) n
  reached_root n i r = from_start (length names) n (in_kept (test zero) names n i (holds_from_in roots n r))

  pub reached_more : (m n : Name) → In (reached store names roots) m → In (refs_at store m) n → In names n → In (reached store names roots) n
  reached_more m n im r i =
      subst (λ ns. In ns n) (sym stays)
      (in_kept (test (suc (length names))) names n i
      (or_right _ _ (any_from_in (λ x. holds_name (refs_at store x) n) (reached_by store names roots (length names)) m im (holds_from_in (refs_at store m) n r))))

  walk_from_in : (k : ℕ) (n : Name) → In (reached_by store names roots k) n → IsReachedWithin store names roots n
  walk_from_in zero n h =
      let r = in_from_kept (test zero) names n h in
      reached_start (StartsWithin names roots) (LeadsWithin store names) n (contains_from_in names n r.0, contains_from_in roots n (in_from_holds roots n r.1))
  walk_from_in (suc k) n h =
      let r = in_from_kept (test (suc k)) names n h in
      elim (or_cases _ _ r.1) [
        | inl e ↦ walk_from_in k n (in_from_holds (reached_by store names roots k) n e)
        | inr e ↦
            let m = in_from_any (λ m. holds_name (refs_at store m) n) (reached_by store names roots k) e in
            walk_more (StartsWithin names roots) (LeadsWithin store names) m.0 n (walk_from_in k m.0 m.1)
            (contains_from_in names n r.0, contains_from_in (refs_at store m.0) n (in_from_holds (refs_at store m.0) n m.2))
      ]

  in_from_walk : (n : Name) → IsReachedWithin store names roots n → In (reached store names roots) n
  in_from_walk n w = reached_within (StartsWithin names roots) (LeadsWithin store names) (In (reached store names roots))
      (λ a s. reached_root a (in_from_contains names a s.0) (in_from_contains roots a s.1))
      (λ m a h e. reached_more m a h (in_from_contains (refs_at store m) a e.1) (in_from_contains names a e.0)) n w

pub reached_is_walks : ReachedIsWalks
reached_is_walks store names roots n = (
  λ c. walk_from_in store names roots (length names) n (in_from_contains (reached store names roots) n c),
  λ w. contains_from_in (reached store names roots) n (in_from_walk store names roots n w),
)

-- of some names, those that were found and those to which they refer
abbrev pub once_by : (Name → List Name) → List Name → List Name → List Name
once_by refs names found = filter (λ n. holds_name found n || list_any (λ m. holds_name (refs m) n) found) names
