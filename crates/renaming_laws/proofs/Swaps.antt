-- The exchange of the children of two forks.
use Rattle.renaming_laws.proofs.Common.{◌≡◌, ℕ, ◌+◌, ◌-◌, ◌%◌, ◌==◌, ◌<◌, ◌≤◌, true, false, cond, nat_lt, ◌⊎◌, inl, inr, ap, sym, ◌∙◌, arith, eqb-true, eq-eqb, ne_eqb, cases_lt, cond-true, cond-false, lt-ltb, le-ltb, is_left, sibling, IsRenaming, swap}

-- SIBLINGS

abbrev Left : ℕ → Type 0
Left t = (t % 2 ≡ 1) × (is_left t ≡ true) × (sibling t ≡ t + 1)

abbrev Right : ℕ → Type 0
Right t = (t % 2 ≡ 0) × (is_left t ≡ false) × (sibling t ≡ t - 1)

left_is : (t : ℕ) → t % 2 ≡ 1 → Left t
left_is t e = let h : is_left t ≡ true = eq-eqb (t % 2) 1 e in (e, h, cond-true (is_left t) (t + 1) (t - 1) h)

right_is : (t : ℕ) → t % 2 ≡ 0 → Right t
right_is t e = let h : is_left t ≡ false = ne_eqb (t % 2) 1 (λ o. omega arith) in (e, h, cond-false (is_left t) (t + 1) (t - 1) h)

side : (t : ℕ) → Left t ⊎ Right t
side t = elim (cases_lt (t % 2) 1) [
  | inl lt ↦ inr (right_is t (omega arith))
  | inr ge ↦ inl (left_is t (omega arith))
]

module _ (n : ℕ) (odd : n % 2 ≡ 1) where
  abbrev pub q : ℕ → ℕ
  q t = swap n t

  -- WHERE A NUMBER GOES

  pub at_low : (t : ℕ) → t < n → q t ≡ t
  at_low t lt = cond-true (nat_lt t n) t (cond (nat_lt t (n + 2)) (t + 2) (cond (nat_lt t (n + 4)) (t - 2) t)) (lt-ltb t n lt)

  not_low : (t : ℕ) → n ≤ t → q t ≡ cond (nat_lt t (n + 2)) (t + 2) (cond (nat_lt t (n + 4)) (t - 2) t)
  not_low t ge = cond-false (nat_lt t n) t (cond (nat_lt t (n + 2)) (t + 2) (cond (nat_lt t (n + 4)) (t - 2) t)) (le-ltb t n ge)

  pub at_first : (t : ℕ) → n ≤ t → t < n + 2 → q t ≡ t + 2
  at_first t ge lt = not_low t ge ∙ cond-true (nat_lt t (n + 2)) (t + 2) (cond (nat_lt t (n + 4)) (t - 2) t) (lt-ltb t (n + 2) lt)

  not_first : (t : ℕ) → n + 2 ≤ t → q t ≡ cond (nat_lt t (n + 4)) (t - 2) t
  not_first t ge = not_low t (omega arith) ∙ cond-false (nat_lt t (n + 2)) (t + 2) (cond (nat_lt t (n + 4)) (t - 2) t) (le-ltb t (n + 2) ge)

  pub at_second : (t : ℕ) → n + 2 ≤ t → t < n + 4 → q t ≡ t - 2
  at_second t ge lt = not_first t ge ∙ cond-true (nat_lt t (n + 4)) (t - 2) t (lt-ltb t (n + 4) lt)

  at_high : (t : ℕ) → n + 4 ≤ t → q t ≡ t
  at_high t ge = not_first t (omega arith) ∙ cond-false (nat_lt t (n + 4)) (t - 2) t (le-ltb t (n + 4) ge)

  abbrev pub Low : ℕ → Type 0
  Low t = (t < n) × (q t ≡ t)

  abbrev pub First : ℕ → Type 0
  First t = (n ≤ t) × (t < n + 2) × (q t ≡ t + 2)

  abbrev pub Second : ℕ → Type 0
  Second t = (n + 2 ≤ t) × (t < n + 4) × (q t ≡ t - 2)

  abbrev pub High : ℕ → Type 0
  High t = (n + 4 ≤ t) × (q t ≡ t)

  pub stands : (t : ℕ) → Low t ⊎ (First t ⊎ (Second t ⊎ High t))
  stands t = elim (cases_lt t n) [
    | inl lt ↦ inl (lt, at_low t lt)
    | inr ge ↦ elim (cases_lt t (n + 2)) [
      | inl lt ↦ inr (inl (ge, lt, at_first t ge lt))
      | inr ge' ↦ elim (cases_lt t (n + 4)) [
        | inl lt ↦ inr (inr (inl (ge', lt, at_second t ge' lt)))
        | inr ge'' ↦ inr (inr (inr (ge'', at_high t ge'')))
      ]
    ]
  ]

  -- BACK

  back : (t : ℕ) → q (q t) ≡ t
  back t = back_by_cases t (stands t)
    where
      back_by_cases : (t : ℕ) → Low t ⊎ (First t ⊎ (Second t ⊎ High t)) → q (q t) ≡ t
      back_by_cases t (inl h) = ap q h.1 ∙ h.1
      back_by_cases t (inr (inl h)) = let a : n ≤ t = h.0 in let b : t < n + 2 = h.1 in ap q h.2 ∙ (at_second (t + 2) (omega arith) (omega arith) ∙ (let e : t + 2 - 2 ≡ t = omega arith in e))
      back_by_cases t (inr (inr (inl h))) = let a : n + 2 ≤ t = h.0 in let b : t < n + 4 = h.1 in ap q h.2 ∙ (at_first (t - 2) (omega arith) (omega arith) ∙ (let e : t - 2 + 2 ≡ t = omega arith in e))
      back_by_cases t (inr (inr (inr h))) = ap q h.1 ∙ h.1

  -- SIDES

  same_rest : (t : ℕ) → q t % 2 ≡ t % 2
  same_rest t = same_rest_by_cases t (stands t)
    where
      same_rest_by_cases : (t : ℕ) → Low t ⊎ (First t ⊎ (Second t ⊎ High t)) → q t % 2 ≡ t % 2
      same_rest_by_cases t (inl h) = ap (λ k. k % 2) h.1
      same_rest_by_cases t (inr (inl h)) = ap (λ k. k % 2) h.2 ∙ (let e : (t + 2) % 2 ≡ t % 2 = omega arith in e)
      same_rest_by_cases t (inr (inr (inl h))) = let a : n + 2 ≤ t = h.0 in ap (λ k. k % 2) h.2 ∙ (let e : (t - 2) % 2 ≡ t % 2 = omega arith in e)
      same_rest_by_cases t (inr (inr (inr h))) = ap (λ k. k % 2) h.1

  sides : (t : ℕ) → is_left (q t) ≡ is_left t
  sides t = ap (λ k. k == 1) (same_rest t)

  -- a left child and the number after it go together
  left_sibling : (t : ℕ) → t % 2 ≡ 1 → q t + 1 ≡ q (t + 1)
  left_sibling t o = left_sibling_by_cases t o (stands t)
    where
      left_sibling_by_cases : (t : ℕ) → t % 2 ≡ 1 → Low t ⊎ (First t ⊎ (Second t ⊎ High t)) → q t + 1 ≡ q (t + 1)
      left_sibling_by_cases t o (inl h) = let a : t < n = h.0 in ap (λ k. k + 1) h.1 ∙ sym (at_low (t + 1) (omega arith))
      left_sibling_by_cases t o (inr (inl h)) = let a : n ≤ t = h.0 in let b : t < n + 2 = h.1 in ap (λ k. k + 1) h.2 ∙ ((let e : t + 2 + 1 ≡ t + 1 + 2 = omega arith in e) ∙ sym (at_first (t + 1) (omega arith) (omega arith)))
      left_sibling_by_cases t o (inr (inr (inl h))) = let a : n + 2 ≤ t = h.0 in let b : t < n + 4 = h.1 in ap (λ k. k + 1) h.2 ∙ ((let e : t - 2 + 1 ≡ t + 1 - 2 = omega arith in e) ∙ sym (at_second (t + 1) (omega arith) (omega arith)))
      left_sibling_by_cases t o (inr (inr (inr h))) = let a : n + 4 ≤ t = h.0 in ap (λ k. k + 1) h.1 ∙ sym (at_high (t + 1) (omega arith))

  first_stays : q 0 ≡ 0
  first_stays = at_low 0 (omega arith)

  siblings : (t : ℕ) → sibling (q t) ≡ q (sibling t)
  siblings t = elim (side t) [
    | inl h ↦ (left_is (q t) (same_rest t ∙ h.0)).2 ∙ (left_sibling t h.0 ∙ ap q (sym h.2))
    | inr h ↦ (right_is (q t) (same_rest t ∙ h.0)).2 ∙ (even t h.0 ∙ ap q (sym h.2))
  ]
    where
      even : (t : ℕ) → t % 2 ≡ 0 → q t - 1 ≡ q (t - 1)
      even t e = elim (cases_lt 0 t) [
        | inl some ↦
            let back_one : t - 1 + 1 ≡ t = omega arith in
            let o : (t - 1) % 2 ≡ 1 = omega arith in
            let both : q (t - 1) + 1 ≡ q t = left_sibling (t - 1) o ∙ ap q back_one in
            omega arith
        | inr none ↦
            let z : t ≡ 0 = omega arith in
            ap (λ k. q k - 1) z ∙ (ap (λ k. k - 1) first_stays ∙ (sym first_stays ∙ ap q (let e' : 0 ≡ t - 1 = omega arith in e')))
      ]

  pub swapped : IsRenaming (n + 4) (swap n) (swap n)
  swapped = record { back = back; forth = back; root = first_stays; beyond = at_high; sides = sides; siblings = siblings }
