-- An ascending list, cut before and after one of its items.
use Rattle.heap_image.proofs.Common.{◌≡◌, ◌<◌, ℕ, suc, Bool, true, false, List, [], ◌∷◌, ◌++◌, length, arith, refl, ap, sym, subst, ◌∙◌, inl, inr, ◌⊎◌, Some, slice_get, nat_lt, In, in_append_left, in_append_right, in_append_cases, got_middle, in_got, RisesByPlace}

-- of two places one comes first
first_of_two : (i j : ℕ) → (i < j) ⊎ ((i ≡ j) ⊎ (j < i))
first_of_two i j = first_of_two_by_cases (nat_lt i j) (nat_lt j i) refl refl
  where
    first_of_two_by_cases : (a b : Bool) → nat_lt i j ≡ a → nat_lt j i ≡ b → (i < j) ⊎ ((i ≡ j) ⊎ (j < i))
    first_of_two_by_cases true b e f = inl (grind (arith, e))
    first_of_two_by_cases false true e f = inr (inr (grind (arith, f)))
    first_of_two_by_cases false false e f = inr (inl (grind (arith, e, f)))

module _ {A : Type 0} where
  module _ (before : A → A → Type 0) where
    pub behind_first : (y : A) (ys : List A) → RisesByPlace before (y ∷ ys) → RisesByPlace before ys
    behind_first y ys r i j x z lt g h = r (suc i) (suc j) x z (omega (arith, lt)) g h

    rises_to : (a : List A) (x : A) (b : List A) → RisesByPlace before (a ++ x ∷ b) → (y : A) → In a y → before y x
    rises_to [] x b r y h = absurd h
    rises_to (z ∷ a) x b r y (inl e) = subst (λ v. before v x) e (r 0 (suc (length a)) z x (omega arith) refl (got_middle a x b))
    rises_to (z ∷ a) x b r y (inr h) = rises_to a x b (behind_first z (a ++ x ∷ b) r) y h

    pub rises_from : (a : List A) (x : A) (b : List A) → RisesByPlace before (a ++ x ∷ b) → (y : A) → In b y → before x y
    rises_from [] x b r y h = let p = in_got b y h in r 0 (suc p.0) x y (omega arith) refl p.1
    rises_from (z ∷ a) x b r y h = rises_from a x b (behind_first z (a ++ x ∷ b) r) y h

  module _ (before : A → A → Type 0) (key : A → ℕ) (up : (x y : A) → before x y → key x < key y) (xs : List A) (r : RisesByPlace before xs) where
    -- items come in the order of their numbers
    pub comes_first : (i j : ℕ) (x y : A) → slice_get xs i ≡ Some x → slice_get xs j ≡ Some y → key x < key y → i < j
    comes_first i j x y g h lt = comes_first_by_cases (first_of_two i j)
      where
        comes_first_by_cases : (i < j) ⊎ ((i ≡ j) ⊎ (j < i)) → i < j
        comes_first_by_cases (inl l) = l
        comes_first_by_cases (inr (inl e)) = absurd (let f : Some x ≡ Some y = sym g ∙ ap (slice_get xs) e ∙ h in let q : x ≡ y = cc in let k : key x ≡ key y = ap key q in omega (arith, lt, k))
        comes_first_by_cases (inr (inr l)) = absurd (let k : key y < key x = up y x (r j i y x l h g) in omega (arith, lt, k))

    -- no number occurs twice
    pub one_place : (i j : ℕ) (x y : A) → slice_get xs i ≡ Some x → slice_get xs j ≡ Some y → key x ≡ key y → i ≡ j
    one_place i j x y g h e = one_place_by_cases (first_of_two i j)
      where
        one_place_by_cases : (i < j) ⊎ ((i ≡ j) ⊎ (j < i)) → i ≡ j
        one_place_by_cases (inl l) = absurd (let k : key x < key y = up x y (r i j x y l g h) in omega (arith, e, k))
        one_place_by_cases (inr (inl q)) = q
        one_place_by_cases (inr (inr l)) = absurd (let k : key y < key x = up y x (r j i y x l h g) in omega (arith, e, k))

    -- a number identifies one item
    pub same_item : (x y : A) → In xs x → In xs y → key x ≡ key y → x ≡ y
    same_item x y a b e =
        let i = in_got xs x a in
        let j = in_got xs y b in
        let f : Some x ≡ Some y = sym i.1 ∙ ap (slice_get xs) (one_place i.0 j.0 x y i.1 j.1 e) ∙ j.1 in cc

  -- a list, cut before and after one item
  pub record IsCut (xs a : List A) (x : A) (b : List A) : Type 0 where
    pub cut : xs ≡ a ++ x ∷ b

  module _ (xs a : List A) (x : A) (b : List A) (c : IsCut xs a x b) where
    pub in_front : (y : A) → In a y → In xs y
    in_front y h = subst (λ l. In l y) (sym c.cut) (in_append_left a (x ∷ b) y h)

    pub in_middle : In xs x
    in_middle = subst (λ l. In l x) (sym c.cut) (in_append_right a (x ∷ b) x (inl refl))

    pub one_of_three : (y : A) → In xs y → In a y ⊎ ((x ≡ y) ⊎ In b y)
    one_of_three y h = in_append_cases a (x ∷ b) y (subst (λ l. In l y) c.cut h)

    module _ (before : A → A → Type 0) (r : RisesByPlace before xs) where
      pub before_it : (y : A) → In a y → before y x
      before_it y h = rises_to before a x b (subst (RisesByPlace before) c.cut r) y h

      pub behind_it : (y : A) → In b y → before x y
      behind_it y h = rises_from before a x b (subst (RisesByPlace before) c.cut r) y h
