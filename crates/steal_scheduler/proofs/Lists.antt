-- Relations between the positions of two lists, and one theft among a hand's.
use Rattle.steal_scheduler.proofs.Common.{◌≡◌, ⊎_elim, ◌⊎◌, ◌++◌, ℕ, List, [], ◌∷◌, length, set, slice_get, Some, length-append, sym, ◌∙◌, subst, arith, same_Some, got_within, got_same, got_other, none_some, got_more, Theft, SameTheft, ChangesAt, EachPlace}

pub changes_at : (l : List Theft) (i : ℕ) (t u : Theft) (Then : Theft → Theft → Type 0) → slice_get l i ≡ Some t → SameTheft t u → Then t u → ChangesAt l (set l i u) i Then
changes_at l i t u Then at same did = record {
  others = λ k ne. got_other l i k u ne;
  at_victim = λ a b ea eb. let was : t ≡ a = same_Some t a (sym at ∙ ea) in let is : u ≡ b = same_Some u b (sym (got_same l i t u at) ∙ eb) in
      subst (λ z. SameTheft z b × Then z b) was (subst (λ z. SameTheft t z × Then t z) is (same, did));
}

pub no_place : {A B : Type 0} (R : A → B → Type 0) (ys : List B) → EachPlace R [] ys
no_place R ys k a b ea eb = none_some ea

-- one more position in both lists
pub places_more : {A B : Type 0} (R : A → B → Type 0) (xs : List A) (ys : List B) (x : A) (y : B) → length xs ≡ length ys → R x y → EachPlace R xs ys → EachPlace R (xs ++ x ∷ []) (ys ++ y ∷ [])
places_more R xs ys x y long new old k a b ea eb = ⊎_elim
    (λ (e : slice_get xs k ≡ Some a). ⊎_elim (λ (f : slice_get ys k ≡ Some b). old k a b e f)
    (λ (u : (k ≡ length ys) × (y ≡ b)). let h = got_within xs k a e in absurd (let z = u.0 in omega arith)) (got_more ys y b k eb))
    (λ (t : (k ≡ length xs) × (x ≡ a)). ⊎_elim (λ (f : slice_get ys k ≡ Some b). let h = got_within ys k b f in absurd (let z = t.0 in omega arith))
    (λ (u : (k ≡ length ys) × (y ≡ b)). subst (λ z. R z b) t.1 (subst (R x) u.1 new)) (got_more ys y b k eb))
    (got_more xs x a k ea)

pub longer : {A B : Type 0} (xs : List A) (ys : List B) (x : A) (y : B) → length xs ≡ length ys → length (xs ++ x ∷ []) ≡ length (ys ++ y ∷ [])
longer xs ys x y e = let a = length-append xs (x ∷ []) in let b = length-append ys (y ∷ []) in omega arith
