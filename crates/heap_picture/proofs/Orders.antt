-- Ordered lists, concatenated.
use Rattle.heap_picture.proofs.Common.{◌≡◌, ◌⊎◌, ℕ, zero, suc, Some, List, [], ◌∷◌, ◌++◌, map, slice_get, take, inl, inr, refl, sym, subst, in_append_cases, in_append_left, in_append_right, got_in, in_map, map_in, AreAll, Rises}
use Rattle.heap_image.specs.below.plain_vec.{In}

pub rises_append : {A : Type 0} (before : A → A → Type 0) (xs ys : List A) → Rises before xs → Rises before ys → ((x y : A) → In xs x → In ys y → before x y) → Rises before (xs ++ ys)
rises_append before [] ys up vp both = vp
rises_append {A = A} before (x ∷ xs) ys up vp both = (first, rises_append before xs ys up.1 vp (λ z y i j. both z y (inr i) j))
  where
    first : (z : A) → In (xs ++ ys) z → before x z
    first z i = elim (in_append_cases xs ys z i) [ inl j ↦ up.0 z j | inr j ↦ both x z (inl refl) j ]

pub rises_map : {A B : Type 0} (before : A → A → Type 0) (then : B → B → Type 0) (f : A → B) (xs : List A) → Rises before xs → ((x y : A) → In xs x → In xs y → before x y → then (f x) (f y)) → Rises then (map f xs)
rises_map before then f [] up keeps = tt
rises_map {B = B} before then f (x ∷ xs) up keeps = (first, rises_map before then f xs up.1 (λ z y i j b. keeps z y (inr i) (inr j) b))
  where
    first : (z : B) → In (map f xs) z → then (f x) z
    first z i = let r = map_in f xs z i in subst (then (f x)) r.2 (keeps x r.0 (inl refl) (inr r.1) (up.0 r.0 r.1))

-- an item at an earlier place is less
pub rises_before : {A : Type 0} (before : A → A → Type 0) (xs : List A) (i : ℕ) (x y : A) → Rises before xs → slice_get xs i ≡ Some x → In (take i xs) y → before y x
rises_before before [] i x y up e j = absurd cc
rises_before before (z ∷ zs) zero x y up e j = absurd j
rises_before before (z ∷ zs) (suc i) x y up e (inl same) = subst (λ k. before k x) same (up.0 x (got_in zs i x e))
rises_before before (z ∷ zs) (suc i) x y up e (inr j) = rises_before before zs i x y up.1 e j

module _ {A : Type 0} (before : A → A → Type 0) (Is Js Ks : A → Type 0) (xs ys : List A) where
  pub all_append : AreAll before Is xs → AreAll before Js ys → ((x y : A) → Is x → Js y → before x y) → ((x : A) → Is x ⊎ Js x → Ks x) → ((x : A) → Ks x → Is x ⊎ Js x) → AreAll before Ks (xs ++ ys)
  all_append X Y both join split = record {
    rising = rises_append before xs ys X.rising Y.rising (λ x y i j. both x y ((X.each x).0 i) ((Y.each y).0 j));
    each = λ x. (
      (λ i. join x (elim (in_append_cases xs ys x i) [ inl j ↦ inl ((X.each x).0 j) | inr j ↦ inr ((Y.each x).0 j) ])),
      (λ h. elim (split x h) [ inl a ↦ in_append_left xs ys x ((X.each x).1 a) | inr b ↦ in_append_right xs ys x ((Y.each x).1 b) ]),
    );
  }

pub all_map : {A B : Type 0} (before : A → A → Type 0) (then : B → B → Type 0) (f : A → B) (Is : A → Type 0) (xs : List A) → AreAll before Is xs → ((x y : A) → Is x → Is y → before x y → then (f x) (f y))
    → AreAll then (λ z. (x : A) × Is x × (z ≡ f x)) (map f xs)
all_map before then f Is xs X keeps = record {
  rising = rises_map before then f xs X.rising (λ x y i j b. keeps x y ((X.each x).0 i) ((X.each y).0 j) b);
  each = λ z. (
    (λ i. (let r = map_in f xs z i in (r.0, (X.each r.0).0 r.1, sym r.2))),
    (λ h. subst (In (map f xs)) (sym h.2) (in_map f xs h.0 ((X.each h.0).1 h.1))),
  );
}
