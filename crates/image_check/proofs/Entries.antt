-- Lookups after an insertion.
use Rattle.image_check.proofs.Common.{◌≡◌, ℕ, Bool, true, false, cond, List, [], ◌∷◌, refl, ap, arith, Some, nat_eq, found, with_entry}

pub itself : (n : ℕ) → nat_eq n n ≡ true
itself n = grind arith

beside : (m n k : ℕ) → nat_eq m n ≡ false → nat_eq n k ≡ true → nat_eq m k ≡ false
beside m n k e f = grind (arith, e, f)

module _ {V : Type 0} where
  pub found_put : (es : List (ℕ × V)) (n : ℕ) (v : V) → found (with_entry es n v) n ≡ Some v
  found_put [] n v = rw (itself n) refl
  found_put (e ∷ es) n v = found_put_by_cases (nat_eq n e.0) refl (found_put es n v)
    where
      found_put_by_cases : (b : Bool) → nat_eq n e.0 ≡ b → found (with_entry es n v) n ≡ Some v → found (with_entry (e ∷ es) n v) n ≡ Some v
      found_put_by_cases true is again = rw is (rw is refl)
      found_put_by_cases false is again = rw is (rw is again)

  pub found_beside : (es : List (ℕ × V)) (n m : ℕ) (v : V) → nat_eq m n ≡ false → found (with_entry es n v) m ≡ found es m
  found_beside [] n m v ne = rw ne refl
  found_beside (e ∷ es) n m v ne = found_beside_by_cases (nat_eq n e.0) refl (found_beside es n m v ne)
    where
      found_beside_by_cases : (b : Bool) → nat_eq n e.0 ≡ b → found (with_entry es n v) m ≡ found es m → found (with_entry (e ∷ es) n v) m ≡ found (e ∷ es) m
      found_beside_by_cases true is again = rw is (rw (beside m n e.0 ne is) refl)
      found_beside_by_cases false is again = rw is (ap (cond (nat_eq m e.0) (Some e.1)) again)
