-- How long lists of different things are.
use Rattle.log_size_laws.proofs.Common.{◌≡◌, ◌<◌, ◌≤◌, ◌⊎◌, inl, inr, ℕ, zero, suc, Some, List, [], ◌∷◌, length, map, slice_get, refl, ap, sym, subst, ◌∙◌, arith, In, below_next, in_got, in_map, map_in, AreDifferent}

-- a list without one of its things
removed : {A : Type 0} (ys : List A) (x : A) → In ys x → (zs : List A) × (length ys ≡ suc (length zs)) × ((y : A) → In ys y → (x ≡ y) ⊎ In zs y)
removed [] x i = absurd i
removed (y ∷ ys) x (inl same) = (ys, refl, λ z j. elim j [ inl e ↦ inl (sym same ∙ e) | inr more ↦ inr more ])
removed (y ∷ ys) x (inr i) =
    let rest = removed ys x i in (
      y ∷ rest.0,
      ap suc rest.1,
      λ z j. elim j [
        | inl e ↦ inr (inl e)
        | inr more ↦ elim (rest.2 z more) [ inl e ↦ inl e | inr k ↦ inr (inr k) ]
      ],
    )

-- different things are no more than those of a list that has them all
pub few_within : {A : Type 0} (xs ys : List A) → AreDifferent xs → ((x : A) → In xs x → In ys x) → length xs ≤ length ys
few_within [] ys different within = omega arith
few_within (x ∷ xs) ys different within =
    let rest = removed ys x (within x (inl refl)) in
    let few = few_within xs rest.0 different.1 (λ y i. elim (rest.2 y (within y (inr i))) [
      | inl same ↦ absurd (different.0 (subst (In xs) (sym same) i))
      | inr more ↦ more
    ]) in
    let n = rest.1 in
    omega (arith, few, n)

abbrev numbers_below : ℕ → List ℕ
numbers_below zero = []
numbers_below (suc n) = n ∷ numbers_below n

all_below : (n : ℕ) → length (numbers_below n) ≡ n
all_below zero = refl
all_below (suc n) = ap suc (all_below n)

in_below : (n k : ℕ) → k < n → In (numbers_below n) k
in_below zero k lt = absurd (omega (arith, lt))
in_below (suc n) k lt = elim (below_next k n (omega (arith, lt))) [ inl less ↦ inr (in_below n k less) | inr same ↦ inl (sym same) ]

-- different numbers below n are at most n
pub few_numbers : (xs : List ℕ) (n : ℕ) → AreDifferent xs → ((x : ℕ) → In xs x → x < n) → length xs ≤ n
few_numbers xs n different below =
    let few = few_within xs (numbers_below n) different (λ x i. in_below n x (below x i)) in
    let all = all_below n in
    omega (arith, few, all)

-- things with different numbers differ
pub different_back : {A : Type 0} (f : A → ℕ) (xs : List A) → AreDifferent (map f xs) → AreDifferent xs
different_back f [] different = tt
different_back f (x ∷ xs) different = (λ i. different.0 (in_map f xs x i), different_back f xs different.1)

-- what differs at different places of a list
pub different_map : {A : Type 0} (f : A → ℕ) (xs : List A) → ((i j : ℕ) (x y : A) → slice_get xs i ≡ Some x → slice_get xs j ≡ Some y → f x ≡ f y → i ≡ j) → AreDifferent (map f xs)
different_map f [] once = tt
different_map f (x ∷ xs) once = (
  λ i.
      let y = map_in f xs (f x) i in
      let at = in_got xs y.0 y.1 in
      let apart : zero ≡ suc at.0 = once zero (suc at.0) x y.0 refl at.1 (sym y.2) in
      absurd (omega (arith, apart)),
  different_map f xs (λ i j y z at_y at_z same. let next : suc i ≡ suc j = once (suc i) (suc j) y z at_y at_z same in omega (arith, next)),
)
