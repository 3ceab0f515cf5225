-- The references of an object, one after the other.
use Rattle.image_check.proofs.Common.{◌≡◌, ℕ, Bool, false, List, [], sym, Option, Some, None, ◌||◌, if◌then◌else◌, list_any, or-false, Read, Whole, ImageCause, Ref, Cross, Down, is_astray, crosses, forgets}

abbrev pub by_tests : Bool → Bool → Bool → Option ImageCause
by_tests astray crossing forgotten =
    if astray then Some Ref
    else if crossing then Some Cross
    else if forgotten then Some Down
    else None

-- the first cause, given whether earlier references crossed or were forgotten, and the references left
abbrev pub cause_from : Whole → Read → ℕ → ℕ → ℕ → Bool → Bool → List ℕ → Option ImageCause
cause_from w r t a k crossing forgotten vs = by_tests (list_any (is_astray w r) vs) (crossing || list_any (crosses r t) vs) (forgotten || forgets w r t a k vs)

module _ (w : Whole) (r : Read) (t a k : ℕ) (c f : Bool) where
  pub none_left : by_tests false c f ≡ cause_from w r t a k c f []
  none_left = (λ j. by_tests false (sym (or-false c) j) (sym (or-false f) j))
