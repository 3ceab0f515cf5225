-- One account changed in a list of them.
use Rattle.core_invariant.proofs.Common.{◌≡◌, ℕ, zero, suc, ◌+◌, Bool, true, false, cond, Option, Some, None, List, [], ◌∷◌, slice_get, slice_set, sum_by, refl, ap, sym, ◌∙◌, sum_by-cons, same_Some}

pub sum_put : {A : Type 0} (g : A → ℕ) (xs : List A) (t : ℕ) (x y : A) → slice_get xs t ≡ Some x → g y ≡ g x → sum_by g (slice_set xs t y) ≡ sum_by g xs
sum_put g [] t x y e q = absurd cc
sum_put g (z ∷ xs) zero x y e q = sum_by-cons g y xs ∙ (ap (λ n. n + sum_by g xs) (q ∙ ap g (sym (same_Some z x e))) ∙ sym (sum_by-cons g z xs))
sum_put g (z ∷ xs) (suc t) x y e q = sum_by-cons g z (slice_set xs t y) ∙ (ap (λ n. g z + n) (sum_put g xs t x y e q) ∙ sym (sum_by-cons g z xs))

none_then : (b : Bool) (i : ℕ) (rest : Option ℕ) → cond b (Some i) rest ≡ None → (b ≡ false) × (rest ≡ None)
none_then true i rest h = absurd cc
none_then false i rest h = (refl, h)
