-- Lists that have items at the same positions are equally long.
use Rattle.core_invariant.proofs.Common.{◌≡◌, ℕ, suc, is_some, List, [], ◌∷◌, length, slice_get, refl, ap, sym, false≢true}

pub same_length : {A B : Type 0} (xs : List A) (ys : List B) → ((u : ℕ) → is_some (slice_get xs u) ≡ is_some (slice_get ys u)) → length xs ≡ length ys
same_length [] [] e = refl
same_length [] (y ∷ ys) e = absurd (false≢true (e 0))
same_length (x ∷ xs) [] e = absurd (false≢true (sym (e 0)))
same_length (x ∷ xs) (y ∷ ys) e = ap suc (same_length xs ys (λ u. e (suc u)))
