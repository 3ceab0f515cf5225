-- Lists in which nothing stands twice.
use Rattle.fork_graph.proofs.Common.{◌≡◌, ℕ, zero, suc, Bool, true, false, cond, List, [], ◌∷◌, ◌++◌, filter, reverse, inl, inr, refl, ap, sym, subst, Some, slice_get, reverse_onto, same_Some, In, got_in, in_from_kept, in_append_cases, in_append_left, in_append_right, none_some}

abbrev pub EachOnce : {A : Type 0} → List A → Type 0
EachOnce [] = Unit {0}
EachOnce (x ∷ xs) = (In xs x → ⊥) × EachOnce xs

-- one place for each item
pub one_place : {A : Type 0} (xs : List A) → EachOnce xs → (i j : ℕ) (x : A) → slice_get xs i ≡ Some x → slice_get xs j ≡ Some x → i ≡ j
one_place [] d i j x a b = none_some a
one_place (y ∷ ys) d zero zero x a b = refl
one_place (y ∷ ys) d zero (suc j) x a b = absurd (d.0 (subst (In ys) (sym (same_Some y x a)) (got_in ys j x b)))
one_place (y ∷ ys) d (suc i) zero x a b = absurd (d.0 (subst (In ys) (sym (same_Some y x b)) (got_in ys i x a)))
one_place (y ∷ ys) d (suc i) (suc j) x a b = ap suc (one_place ys d.1 i j x a b)

pub once_append : {A : Type 0} (xs ys : List A) → EachOnce xs → EachOnce ys → ((x : A) → In xs x → In ys x → ⊥) → EachOnce (xs ++ ys)
once_append [] ys d e apart = e
once_append (x ∷ xs) ys d e apart = (
  λ h. elim (in_append_cases xs ys x h) [ inl i ↦ d.0 i | inr i ↦ apart x (inl refl) i ],
  once_append xs ys d.1 e (λ z i j. apart z (inr i) j),
)

kept_by : {A : Type 0} (p : A → Bool) (x : A) (xs : List A) → (In xs x → ⊥) → EachOnce (filter p xs) → (b : Bool) → EachOnce (cond b (x ∷ filter p xs) (filter p xs))
kept_by p x xs out d true = (λ h. out (in_from_kept p xs x h).0, d)
kept_by p x xs out d false = d

pub once_kept : {A : Type 0} (p : A → Bool) (xs : List A) → EachOnce xs → EachOnce (filter p xs)
once_kept p [] d = d
once_kept p (x ∷ xs) d = kept_by p x xs d.0 (once_kept p xs d.1) (p x)

-- reversed lists have the same items
pub in_reversed : {A : Type 0} (xs : List A) (x : A) → In (reverse xs) x → In xs x
in_reversed [] x h = h
in_reversed (y ∷ ys) x h =
    let h' = subst (λ l. In l x) (reverse_onto ys y []) h in
    elim (in_append_cases (reverse ys) (y ∷ []) x h') [
      | inl i ↦ inr (in_reversed ys x i)
      | inr i ↦ elim i [ inl e ↦ inl e | inr out ↦ absurd out ]
    ]

pub reversed_in : {A : Type 0} (xs : List A) (x : A) → In xs x → In (reverse xs) x
reversed_in [] x h = h
reversed_in (y ∷ ys) x (inl e) = subst (λ l. In l x) (sym (reverse_onto ys y [])) (in_append_right (reverse ys) (y ∷ []) x (inl e))
reversed_in (y ∷ ys) x (inr i) = subst (λ l. In l x) (sym (reverse_onto ys y [])) (in_append_left (reverse ys) (y ∷ []) x (reversed_in ys x i))

pub once_reversed : {A : Type 0} (xs : List A) → EachOnce xs → EachOnce (reverse xs)
once_reversed [] d = d
once_reversed (y ∷ ys) d =
    subst EachOnce (sym (reverse_onto ys y []))
    (once_append (reverse ys) (y ∷ []) (once_reversed ys d.1) (λ h. h, tt)
    (λ z i j. elim j [ inl e ↦ d.0 (subst (In ys) (sym e) (in_reversed ys z i)) | inr out ↦ out ]))
