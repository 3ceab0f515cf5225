-- Lists that agree under a renaming: item k of one, changed by h, is item f k of the other.
use Rattle.renaming_laws.proofs.Common.{◌≡◌, ℕ, zero, suc, ◌+◌, ◌-◌, ◌<◌, ◌≤◌, Option, Some, None, List, [], ◌∷◌, ◌++◌, length, map, slice_get, slice_set, ◌⊎◌, inl, inr, refl, ap, sym, subst, ◌∙◌, arith, option_map, cases_eq, cases_lt, slice_get-map, In, got_front, got_back, got_other, last_of, front_of}

pub got_set : {A : Type 0} (xs : List A) (k : ℕ) (x : A) → slice_get (slice_set xs k x) k ≡ option_map (λ y. x) (slice_get xs k)
got_set [] k x = refl
got_set (y ∷ ys) zero x = refl
got_set (y ∷ ys) (suc k) x = got_set ys k x

pub last_map : {A B : Type 0} (h : A → B) (xs : List A) → last_of (map h xs) ≡ option_map h (last_of xs)
last_map h [] = refl
last_map h (x ∷ []) = refl
last_map h (x ∷ y ∷ xs) = last_map h (y ∷ xs)

pub front_map : {A B : Type 0} (h : A → B) (xs : List A) → front_of (map h xs) ≡ map h (front_of xs)
front_map h [] = refl
front_map h (x ∷ []) = refl
front_map h (x ∷ y ∷ xs) = ap (λ zs. h x ∷ zs) (front_map h (y ∷ xs))

pub from_map : {A B : Type 0} (h : A → B) (k : B → A) → ((x : A) → k (h x) ≡ x) → (xs : List A) (x : A) → In (map h xs) (h x) → In xs x
from_map h k back [] x i = absurd i
from_map h k back (y ∷ ys) x (inl e) = inl (sym (back y) ∙ (ap k e ∙ back x))
from_map h k back (y ∷ ys) x (inr i) = inr (from_map h k back ys x i)

module _ {A : Type 0} (f g : ℕ → ℕ) (back : (t : ℕ) → g (f t) ≡ t) (h : A → A) where
  abbrev pub ListTo : List A → List A → Type 0
  ListTo xs ys = (k : ℕ) → slice_get ys (f k) ≡ option_map h (slice_get xs k)

  apart : (a b : ℕ) → (a ≡ b → ⊥) → f a ≡ f b → ⊥
  apart a b ne e = ne (sym (back a) ∙ (ap g e ∙ back b))

  written : (x : A) (o : Option A) → option_map (λ y. h x) (option_map h o) ≡ option_map h (option_map (λ y. x) o)
  written x None = refl
  written x (Some y) = refl

  pub set_to : (xs ys : List A) (k : ℕ) (x : A) → ListTo xs ys → ListTo (slice_set xs k x) (slice_set ys (f k) (h x))
  set_to xs ys k x L j = elim (cases_eq j k) [
    | inl e ↦
        subst (λ i. slice_get (slice_set ys (f k) (h x)) (f i) ≡ option_map h (slice_get (slice_set xs k x) i)) (sym e)
        (got_set ys (f k) (h x) ∙ (ap (option_map (λ y. h x)) (L k) ∙ (written x (slice_get xs k) ∙ ap (option_map h) (sym (got_set xs k x)))))
    | inr ne ↦ got_other ys (f k) (f j) (h x) (apart j k ne) ∙ (L j ∙ ap (option_map h) (sym (got_other xs k j x ne)))
  ]

  pub push_to : (xs ys zs : List A) → length ys ≡ length xs → ((k : ℕ) → length xs ≤ k → f k ≡ k) → ListTo xs ys → ListTo (xs ++ zs) (ys ++ map h zs)
  push_to xs ys zs len beyond L k = elim (cases_lt k (length xs)) [
    | inl lt ↦ got_front ys (map h zs) (f k) (below lt (cases_lt (f k) (length xs))) ∙ (L k ∙ ap (option_map h) (sym (got_front xs zs k lt)))
    | inr ge ↦
        let j : f k ≡ length ys + (k - length xs) = omega (arith, beyond k ge, len) in
        let i : length xs + (k - length xs) ≡ k = omega arith in
        ap (slice_get (ys ++ map h zs)) j ∙ (got_back ys (map h zs) (k - length xs)
        ∙ (slice_get-map h zs (k - length xs) ∙ ap (option_map h) (sym (got_back xs zs (k - length xs)) ∙ ap (slice_get (xs ++ zs)) i)))
  ]
    where
      below : k < length xs → (f k < length xs) ⊎ (length xs ≤ f k) → f k < length ys
      below lt (inl l) = omega (arith, len)
      below lt (inr ge) = let e : f k ≡ k = sym (back (f k)) ∙ (ap g (beyond (f k) ge) ∙ back k) in absurd (omega arith)
