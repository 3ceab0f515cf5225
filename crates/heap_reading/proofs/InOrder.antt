-- Sorted lists of exactly the items with a property, each once.
use Rattle.heap_reading.proofs.Common.{◌≡◌, ◌⊎◌, List, [], ◌∷◌, ◌++◌, inl, inr, refl, subst, in_append_cases, in_append_left, in_append_right, AreAll, Rises}
use Rattle.core_invariant.specs.below.plain_vec.{In}

module _ {A : Type 0} (before : A → A → Type 0) where
  pub rises_more : (xs : List A) (y : A) → Rises before xs → ((x : A) → In xs x → before x y) → Rises before (xs ++ y ∷ [])
  rises_more [] y up first = ((λ z i. absurd i), tt)
  rises_more (x ∷ xs) y up first = (rises_more_here, rises_more xs y up.1 (λ z i. first z (inr i)))
    where
      rises_more_here : (z : A) → In (xs ++ y ∷ []) z → before x z
      rises_more_here z i = elim (in_append_cases xs (y ∷ []) z i) [
        | inl j ↦ up.0 z j
        | inr j ↦ elim j [ inl e ↦ subst (before x) e (first x (inl refl)) | inr none ↦ absurd none ]
      ]

  pub all_none : (Is : A → Type 0) → ((x : A) → Is x → ⊥) → AreAll before Is []
  all_none Is none = record { rising = tt; each = λ x. ((λ i. absurd i), (λ h. absurd (none x h))) }

  pub all_more : (Is Is' : A → Type 0) (xs : List A) (y : A) → AreAll before Is xs → ((x : A) → Is x → before x y) → Is' y → ((x : A) → Is x → Is' x) → ((x : A) → Is' x → Is x ⊎ (y ≡ x)) → AreAll before Is' (xs ++ y ∷ [])
  all_more Is Is' xs y all first new old cases = record {
    rising = rises_more xs y all.rising (λ x i. first x ((all.each x).0 i));
    each = λ x. (
      (λ i. elim (in_append_cases xs (y ∷ []) x i) [
        | inl j ↦ old x ((all.each x).0 j)
        | inr j ↦ elim j [ inl e ↦ subst Is' e new | inr none ↦ absurd none ]
      ]),
      (λ h. elim (cases x h) [ inl o ↦ in_append_left xs (y ∷ []) x ((all.each x).1 o) | inr e ↦ in_append_right xs (y ∷ []) x (inl e) ]),
    );
  }

  pub all_same : (Is Is' : A → Type 0) (xs : List A) → AreAll before Is xs → ((x : A) → Is x → Is' x) → ((x : A) → Is' x → Is x) → AreAll before Is' xs
  all_same Is Is' xs all there back = record { rising = all.rising; each = λ x. ((λ i. there x ((all.each x).0 i)), (λ h. (all.each x).1 (back x h))) }
