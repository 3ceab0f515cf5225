-- Lists after writes, and their last items.
use Rattle.hh_model.proofs.Common.{◌≡◌, ℕ, zero, suc, ◌<◌, Some, List, [], ◌∷◌, ◌++◌, length, slice_get, slice_set, refl, ap, sym, set-append_left, last_of, front_of}
use Rattle.std.proofs.lemmas.List.{set-set}

-- the later of two writes stays, in the form that a step has (`returns.rt` cites it)
pub set_again : {A : Type 0} (xs : List A) (k : ℕ) (x y : A) → slice_set (slice_set xs k x) k y ≡ slice_set xs k y
set_again xs k x y = set-set xs k x y

-- writing what is there already changes nothing
pub set_got : {A : Type 0} (xs : List A) (k : ℕ) (x : A) → slice_get xs k ≡ Some x → slice_set xs k x ≡ xs
set_got [] k x e = refl
set_got (y ∷ ys) zero x e = let h : y ≡ x = cc in ap (λ z. z ∷ ys) (sym h)
set_got (y ∷ ys) (suc k) x e = ap (λ zs. y ∷ zs) (set_got ys k x e)

pub last_push : {A : Type 0} (xs : List A) (x : A) → last_of (xs ++ x ∷ []) ≡ Some x
last_push [] x = refl
last_push (y ∷ []) x = refl
last_push (y ∷ z ∷ xs) x = last_push (z ∷ xs) x

-- a nonempty list has a last item
pub last_there : {A : Type 0} (x : A) (xs : List A) → (y : A) × (last_of (x ∷ xs) ≡ Some y)
last_there x [] = (x, refl)
last_there x (y ∷ xs) = last_there y xs

pub front_push : {A : Type 0} (xs : List A) (x : A) → front_of (xs ++ x ∷ []) ≡ xs
front_push [] x = refl
front_push (y ∷ []) x = refl
front_push (y ∷ z ∷ xs) x = ap (λ zs. y ∷ zs) (front_push (z ∷ xs) x)

-- a write to the first of two lists, in the form that a step has (`fork.rt` cites it)
pub set_front : {A : Type 0} (xs ys : List A) (k : ℕ) (x : A) → k < length xs → slice_set (xs ++ ys) k x ≡ slice_set xs k x ++ ys
set_front xs ys k x lt = set-append_left xs ys k x lt
