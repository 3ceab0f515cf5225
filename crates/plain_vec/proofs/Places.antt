-- Items at positions of lists, and membership by position.
use Rattle.std.proofs.Common.{◌≡◌, ℕ, zero, suc, ◌+◌, ◌<◌, List, [], ◌∷◌, ◌++◌, length, get_or, map, take, All, ◌⊎◌, inl, inr, refl, ap, sym, subst, ◌∙◌, arith, Some, None, slice_get, slice_set}
use Rattle.std.specs.List.{AllByRecursion, flat_map}
use Rattle.std.proofs.lemmas.List.{flat_map_more, take_more}
use Rattle.std.proofs.lemmas.Option.{get_or_from_slice_get, same_Some, slice_get_within}
use Rattle.plain_vec.specs.Members.{In}
use Rattle.plain_vec.proofs.Members.{contains_from_in}
use Rattle.plain_vec.proofs.Options.{none_some}

-- POSITIONS

pub got_some : {A : Type 0} (xs : List A) (k : ℕ) → k < length xs → (x : A) × (slice_get xs k ≡ Some x)
got_some [] k lt = absurd (omega arith)
got_some (x ∷ xs) zero lt = (x, refl)
got_some (x ∷ xs) (suc k) lt = got_some xs k (omega arith)

-- a position below the length has an item
pub got_item : {A : Type 0} (xs : List A) (k : ℕ) (x : A) → k < length xs → x ≡ get_or xs k x → slice_get xs k ≡ Some x
got_item [] k x lt e = absurd (omega arith)
got_item (y ∷ xs) zero x lt e = ap Some (sym e)
got_item (y ∷ xs) (suc k) x lt e = got_item xs k x (omega arith) e

pub got_none : {A : Type 0} (xs : List A) (k : ℕ) → k < length xs → slice_get xs k ≡ None → ⊥
got_none [] k lt e = omega arith
got_none (x ∷ xs) zero lt e = cc
got_none (x ∷ xs) (suc k) lt e = got_none xs k (omega arith) e

pub got_set : {A : Type 0} (xs : List A) (k : ℕ) (y : A) → k < length xs → slice_get (slice_set xs k y) k ≡ Some y
got_set [] k y lt = absurd (omega arith)
got_set (x ∷ xs) zero y lt = refl
got_set (x ∷ xs) (suc k) y lt = got_set xs k y (omega arith)

-- a write past the end leaves the list unchanged
pub none_set : {A : Type 0} (xs : List A) (k : ℕ) (y : A) → slice_get xs k ≡ None → slice_get (slice_set xs k y) k ≡ None
none_set [] k y e = e
none_set (x ∷ xs) zero y e = absurd cc
none_set (x ∷ xs) (suc k) y e = none_set xs k y e

-- what follows the items of a list
pub got_middle : {A : Type 0} (xs : List A) (x : A) (ys : List A) → slice_get (xs ++ x ∷ ys) (length xs) ≡ Some x
got_middle [] x ys = refl
got_middle (y ∷ xs) x ys = got_middle xs x ys

pub got_last : {A : Type 0} (xs : List A) (y : A) → slice_get (xs ++ y ∷ []) (length xs) ≡ Some y
got_last [] y = refl
got_last (x ∷ xs) y = got_last xs y

-- a list with one item appended
pub got_more : {A : Type 0} (xs : List A) (x y : A) (k : ℕ) → slice_get (xs ++ x ∷ []) k ≡ Some y → (slice_get xs k ≡ Some y) ⊎ ((k ≡ length xs) × (x ≡ y))
got_more [] x y zero e = inr (refl, same_Some x y e)
got_more [] x y (suc k) e = none_some e
got_more (z ∷ xs) x y zero e = inl e
got_more (z ∷ xs) x y (suc k) e = elim (got_more xs x y k e) [ inl h ↦ inl h | inr t ↦ inr (ap suc t.0, t.1) ]

pub got_map : {A B : Type 0} (f : A → B) (xs : List A) (k : ℕ) (x : A) → slice_get xs k ≡ Some x → slice_get (map f xs) k ≡ Some (f x)
got_map f [] k x e = absurd cc
got_map f (y ∷ xs) zero x e = ap (λ z. Some (f z)) (same_Some y x e)
got_map f (y ∷ xs) (suc k) x e = got_map f xs k x e

pub map_got : {A B : Type 0} (f : A → B) (xs : List A) (k : ℕ) (y : B) → slice_get (map f xs) k ≡ Some y → (x : A) × (slice_get xs k ≡ Some x) × (f x ≡ y)
map_got f [] k y e = absurd cc
map_got f (x ∷ xs) zero y e = (x, refl, same_Some (f x) y e)
map_got f (x ∷ xs) (suc k) y e = map_got f xs k y e

-- MEMBERSHIP

pub in_got : {A : Type 0} (xs : List A) (x : A) → In xs x → (k : ℕ) × (slice_get xs k ≡ Some x)
in_got [] x i = absurd i
in_got (y ∷ ys) x (inl e) = (0, ap Some e)
in_got (y ∷ ys) x (inr i) = let z = in_got ys x i in (suc z.0, z.1)

pub in_read : {A : Type 0} (xs : List A) (k : ℕ) (d : A) → k < length xs → In xs (get_or xs k d)
in_read [] k d lt = absurd (omega arith)
in_read (x ∷ xs) zero d lt = inl refl
in_read (x ∷ xs) (suc k) d lt = inr (in_read xs k d (omega arith))

pub in_map : {A B : Type 0} (f : A → B) (xs : List A) (x : A) → In xs x → In (map f xs) (f x)
in_map f [] x i = absurd i
in_map f (y ∷ ys) x (inl e) = inl (ap f e)
in_map f (y ∷ ys) x (inr i) = inr (in_map f ys x i)

-- each item of the mapped list is the image of an item of the list
pub map_in : {A B : Type 0} (f : A → B) (xs : List A) (y : B) → In (map f xs) y → (x : A) × In xs x × (f x ≡ y)
map_in f [] y i = absurd i
map_in f (x ∷ xs) y (inl e) = (x, inl refl, e)
map_in f (x ∷ xs) y (inr i) = let r = map_in f xs y i in (r.0, inr r.1, r.2)

pub in_take : {A : Type 0} (k : ℕ) (xs : List A) (z : A) → In (take k xs) z → In xs z
in_take zero xs z h = absurd h
in_take (suc k) [] z h = h
in_take (suc k) (x ∷ xs) z (inl e) = inl e
in_take (suc k) (x ∷ xs) z (inr h) = inr (in_take k xs z h)

pub take_more_in : {A : Type 0} (xs : List A) (k : ℕ) (y : A) → In (take k xs) y → In (take (k + 1) xs) y
take_more_in [] zero y i = absurd i
take_more_in [] (suc k) y i = absurd i
take_more_in (z ∷ zs) zero y i = absurd i
take_more_in (z ∷ zs) (suc k) y i = let n : suc k + 1 ≡ suc (k + 1) = omega arith in rw n (take_more_in_by_cases (take_more_in zs k y) i)
  where
    take_more_in_by_cases : (In (take k zs) y → In (take (k + 1) zs) y) → In (z ∷ take k zs) y → In (z ∷ take (k + 1) zs) y
    take_more_in_by_cases rest (inl f) = inl f
    take_more_in_by_cases rest (inr j) = inr (rest j)

-- the first items and the next one
pub got_in_take : {A : Type 0} (xs : List A) (k : ℕ) (x : A) → slice_get xs k ≡ Some x → In (take (k + 1) xs) x
got_in_take [] k x e = absurd cc
got_in_take (z ∷ zs) zero x e = inl cc
got_in_take (z ∷ zs) (suc k) x e = let n : suc k + 1 ≡ suc (k + 1) = omega arith in rw n (inr (got_in_take zs k x e))

pub in_take_more : {A : Type 0} (xs : List A) (k : ℕ) (x y : A) → slice_get xs k ≡ Some x → In (take (k + 1) xs) y → In (take k xs) y ⊎ (x ≡ y)
in_take_more [] k x y e i = absurd cc
in_take_more (z ∷ zs) zero x y e (inl f) = let g : z ≡ x = cc in inr (sym g ∙ f)
in_take_more (z ∷ zs) zero x y e (inr j) = absurd j
in_take_more (z ∷ zs) (suc k) x y e i = let n : suc k + 1 ≡ suc (k + 1) = omega arith in in_take_more_by_cases (in_take_more zs k x y e) (subst (λ (m : ℕ). In (take m (z ∷ zs)) y) n i)
  where
    in_take_more_by_cases : (In (take (k + 1) zs) y → In (take k zs) y ⊎ (x ≡ y)) → In (z ∷ take (k + 1) zs) y → In (z ∷ take k zs) y ⊎ (x ≡ y)
    in_take_more_by_cases rest (inl f) = inl (inl f)
    in_take_more_by_cases rest (inr j) = elim (rest j) [ inl h ↦ inl (inr h) | inr f ↦ inr f ]

-- FACTS ABOUT ALL ITEMS

pub all_from : {A : Type 0} (P : A → Type 0) (xs : List A) → ((x : A) → In xs x → P x) → All P xs
all_from P xs h = λ k d lt. h (get_or xs k d) (in_read xs k d lt)

pub read_in : {A : Type 0} (P : A → Type 0) (xs : List A) (x : A) → In xs x → All P xs → P x
read_in P xs x i all = let c = contains_from_in xs x i in subst P c.2 (all c.0 x c.1)

pub all_at : {A : Type 0} (P : A → Type 0) (xs : List A) (k : ℕ) (x : A) → All P xs → slice_get xs k ≡ Some x → P x
all_at P xs k x all e = subst P (get_or_from_slice_get xs k x x e) (all k x (slice_get_within xs k x e))

pub each_from : {A : Type 0} (P : A → Type 0) (xs : List A) → ((x : A) → In xs x → P x) → AllByRecursion P xs
each_from P [] f = tt
each_from P (x ∷ xs) f = (f x (inl refl), each_from P xs (λ y i. f y (inr i)))

pub each_in : {A : Type 0} (P : A → Type 0) (xs : List A) (x : A) → AllByRecursion P xs → In xs x → P x
each_in P [] x all i = absurd i
each_in P (y ∷ ys) x all (inl e) = subst P e all.0
each_in P (y ∷ ys) x all (inr i) = each_in P ys x all.1 i

-- A LOOP THAT APPENDS THE RESULT FOR EACH ITEM

pub lines_more : {X : Type 0} (f : X → List ℕ) (xs : List X) (i : ℕ) (d : X) (before now later : List ℕ) → i < length xs
    → now ≡ before ++ flat_map f (take i xs) → later ≡ now ++ f (get_or xs i d) → later ≡ before ++ flat_map f (take (i + 1) xs)
lines_more f xs i d before now later lt e g =
    g ∙ ap (λ x. x ++ f (get_or xs i d)) e
    ∙ flat_map_more f before (take i xs) (get_or xs i d)
    ∙ ap (λ ys. before ++ flat_map f ys) (sym (take_more xs i d lt))
