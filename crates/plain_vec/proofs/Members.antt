-- Membership in a list, by cases on the list; positions of a list after an update.
use Rattle.std.proofs.Common.{◌≡◌, ℕ, zero, suc, ◌+◌, ◌<◌, Bool, true, false, cond, List, [], ◌∷◌, ◌++◌, length, get_or, set, filter, Contains, ◌⊎◌, inl, inr, refl, ap, sym, subst, ◌∙◌, arith, Option, Some, slice_get}
use Rattle.std.specs.List.{list_any, flat_map}
use Rattle.std.proofs.lemmas.Bool.{or_cases, or_left, or_right, false≢true}
use Rattle.std.proofs.Math.Path.{fun_ext}
pub use Rattle.std.proofs.lemmas.Option.{slice_get_within as got_within, slice_get_past as got_past}
pub use Rattle.plain_vec.specs.Members.{In}

in_at : {A : Type 0} (xs : List A) (k : ℕ) (x : A) → k < length xs → get_or xs k x ≡ x → In xs x
in_at [] k x lt e = absurd (omega arith)
in_at (y ∷ ys) zero x lt e = inl e
in_at (y ∷ ys) (suc k) x lt e = inr (in_at ys k x (omega arith) e)

pub in_from_contains : {A : Type 0} (xs : List A) (x : A) → Contains xs x → In xs x
in_from_contains xs x c = in_at xs c.0 x c.1 c.2

pub contains_from_in : {A : Type 0} (xs : List A) (x : A) → In xs x → Contains xs x
contains_from_in [] x h = absurd h
contains_from_in (y ∷ ys) x (inl e) = (0, omega arith, e)
contains_from_in (y ∷ ys) x (inr h) = let c = contains_from_in ys x h in (suc c.0, omega arith, c.2)

kept_step : {A : Type 0} (p : A → Bool) (y : A) (ys : List A) (x : A) → (In ys x → p x ≡ true → In (filter p ys) x) → (b : Bool) → p y ≡ b → In (y ∷ ys) x → p x ≡ true → In (cond b (y ∷ filter p ys) (filter p ys)) x
kept_step p y ys x rest true is (inl e) px = inl e
kept_step p y ys x rest true is (inr h) px = inr (rest h px)
kept_step p y ys x rest false is (inl e) px = absurd (false≢true (sym is ∙ (ap p e ∙ px)))
kept_step p y ys x rest false is (inr h) px = rest h px

pub in_kept : {A : Type 0} (p : A → Bool) (xs : List A) (x : A) → In xs x → p x ≡ true → In (filter p xs) x
in_kept p [] x h px = h
in_kept p (y ∷ ys) x h px = kept_step p y ys x (in_kept p ys x) (p y) refl h px

from_step : {A : Type 0} (p : A → Bool) (y : A) (ys : List A) (x : A) → (In (filter p ys) x → In ys x × (p x ≡ true)) → (b : Bool) → p y ≡ b → In (cond b (y ∷ filter p ys) (filter p ys)) x → In (y ∷ ys) x × (p x ≡ true)
from_step p y ys x rest true is (inl e) = (inl e, sym (ap p e) ∙ is)
from_step p y ys x rest true is (inr h) = let r = rest h in (inr r.0, r.1)
from_step p y ys x rest false is h = let r = rest h in (inr r.0, r.1)

pub in_from_kept : {A : Type 0} (p : A → Bool) (xs : List A) (x : A) → In (filter p xs) x → In xs x × (p x ≡ true)
in_from_kept p [] x h = absurd h
in_from_kept p (y ∷ ys) x h = from_step p y ys x (in_from_kept p ys x) (p y) refl h

pub any_from_in : {A : Type 0} (p : A → Bool) (xs : List A) (x : A) → In xs x → p x ≡ true → list_any p xs ≡ true
any_from_in p [] x h px = absurd h
any_from_in p (y ∷ ys) x (inl e) px = or_left (p y) (list_any p ys) (ap p e ∙ px)
any_from_in p (y ∷ ys) x (inr h) px = or_right (p y) (list_any p ys) (any_from_in p ys x h px)

any_step : {A : Type 0} (p : A → Bool) (y : A) (ys : List A) → (list_any p ys ≡ true → (x : A) × In ys x × (p x ≡ true)) → (p y ≡ true) ⊎ (list_any p ys ≡ true) → (x : A) × In (y ∷ ys) x × (p x ≡ true)
any_step p y ys rest (inl e) = (y, inl refl, e)
any_step p y ys rest (inr h) = let r = rest h in (r.0, inr r.1, r.2)

pub in_from_any : {A : Type 0} (p : A → Bool) (xs : List A) → list_any p xs ≡ true → (x : A) × In xs x × (p x ≡ true)
in_from_any p [] h = absurd (false≢true h)
in_from_any p (y ∷ ys) h = any_step p y ys (in_from_any p ys) (or_cases (p y) (list_any p ys) h)

pub in_append_left : {A : Type 0} (xs ys : List A) (x : A) → In xs x → In (xs ++ ys) x
in_append_left [] ys x h = absurd h
in_append_left (y ∷ xs) ys x (inl e) = inl e
in_append_left (y ∷ xs) ys x (inr h) = inr (in_append_left xs ys x h)

pub in_append_right : {A : Type 0} (xs ys : List A) (x : A) → In ys x → In (xs ++ ys) x
in_append_right [] ys x h = h
in_append_right (y ∷ xs) ys x h = inr (in_append_right xs ys x h)

pub in_append_cases : {A : Type 0} (xs ys : List A) (x : A) → In (xs ++ ys) x → In xs x ⊎ In ys x
in_append_cases [] ys x h = inr h
in_append_cases (y ∷ xs) ys x (inl e) = inl (inl e)
in_append_cases (y ∷ xs) ys x (inr h) = elim (in_append_cases xs ys x h) [ inl i ↦ inl (inr i) | inr i ↦ inr i ]

-- positions after a write
pub got_same : {A : Type 0} (xs : List A) (k : ℕ) (x y : A) → slice_get xs k ≡ Some x → slice_get (set xs k y) k ≡ Some y
got_same [] k x y e = absurd cc
got_same (z ∷ zs) zero x y e = refl
got_same (z ∷ zs) (suc k) x y e = got_same zs k x y e

pub got_other : {A : Type 0} (xs : List A) (k j : ℕ) (y : A) → (j ≡ k → ⊥) → slice_get (set xs k y) j ≡ slice_get xs j
got_other [] k j y ne = refl
got_other (z ∷ zs) zero zero y ne = absurd (ne refl)
got_other (z ∷ zs) zero (suc j) y ne = refl
got_other (z ∷ zs) (suc k) zero y ne = refl
got_other (z ∷ zs) (suc k) (suc j) y ne = got_other zs k j y (λ e. ne (ap suc e))

pub got_cases : {A : Type 0} (xs : List A) (k j : ℕ) (y z : A) → slice_get (set xs k y) j ≡ Some z → ((j ≡ k) × (z ≡ y)) ⊎ (slice_get xs j ≡ Some z)
got_cases [] k j y z e = inr e
got_cases (x ∷ xs) zero zero y z e = inl (refl, cc)
got_cases (x ∷ xs) zero (suc j) y z e = inr e
got_cases (x ∷ xs) (suc k) zero y z e = inr e
got_cases (x ∷ xs) (suc k) (suc j) y z e = elim (got_cases xs k j y z e) [ inl p ↦ inl (ap suc p.0, p.1) | inr h ↦ inr h ]

pub got_front : {A : Type 0} (xs ys : List A) (k : ℕ) → k < length xs → slice_get (xs ++ ys) k ≡ slice_get xs k
got_front [] ys k lt = absurd (omega arith)
got_front (x ∷ xs) ys zero lt = refl
got_front (x ∷ xs) ys (suc k) lt = got_front xs ys k (omega arith)

pub got_back : {A : Type 0} (xs ys : List A) (k : ℕ) → slice_get (xs ++ ys) (length xs + k) ≡ slice_get ys k
got_back [] ys k = ap (slice_get ys) (omega arith)
got_back (x ∷ xs) ys k = ap (slice_get (x ∷ (xs ++ ys))) (let e : length (x ∷ xs) + k ≡ suc (length xs + k) = omega arith in e) ∙ got_back xs ys k

pub got_in : {A : Type 0} (xs : List A) (k : ℕ) (x : A) → slice_get xs k ≡ Some x → In xs x
got_in [] k x e = absurd cc
got_in (y ∷ ys) zero x e = inl cc
got_in (y ∷ ys) (suc k) x e = inr (got_in ys k x e)

-- what a write leaves unchanged of a view
pub view_step : {A B : Type 0} (view : Option A → B) (xs : List A) (k : ℕ) (x y : A) → slice_get xs k ≡ Some x → view (Some y) ≡ view (Some x) → (j : ℕ) → view (slice_get (set xs k y) j) ≡ view (slice_get xs j)
view_step view [] k x y e same j = refl
view_step view (z ∷ zs) zero x y e same zero = same ∙ ap view (sym e)
view_step view (z ∷ zs) zero x y e same (suc j) = refl
view_step view (z ∷ zs) (suc k) x y e same zero = refl
view_step view (z ∷ zs) (suc k) x y e same (suc j) = view_step view zs k x y e same j

pub same_view : {A B : Type 0} (view : Option A → B) (xs : List A) (k : ℕ) (x y : A) → slice_get xs k ≡ Some x → view (Some y) ≡ view (Some x) → ◌≡◌ {A = ℕ → B} (λ j. view (slice_get (set xs k y) j)) (λ j. view (slice_get xs j))
same_view view xs k x y e same = fun_ext (view_step view xs k x y e same)

pub in_flat : {A B : Type 0} (f : A → List B) (xs : List A) (x : A) (y : B) → In xs x → In (f x) y → In (flat_map f xs) y
in_flat f [] x y i j = absurd i
in_flat f (z ∷ zs) x y (inl e) j = in_append_left (f z) (flat_map f zs) y (subst (λ w. In (f w) y) (sym e) j)
in_flat f (z ∷ zs) x y (inr i) j = in_append_right (f z) (flat_map f zs) y (in_flat f zs x y i j)

pub flat_in : {A B : Type 0} (f : A → List B) (xs : List A) (y : B) → In (flat_map f xs) y → (k : ℕ) × (x : A) × (slice_get xs k ≡ Some x) × In (f x) y
flat_in f [] y h = absurd h
flat_in f (z ∷ zs) y h = elim (in_append_cases (f z) (flat_map f zs) y h) [
  | inl i ↦ (zero, z, refl, i)
  | inr i ↦ let r = flat_in f zs y i in (suc r.0, r.1, r.2, r.3)
]
