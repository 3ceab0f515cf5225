-- Lists from their ends.
use Rattle.race_cells.proofs.Common.{◌≡◌, ◌+◌, ◌-◌, Bool, true, false, cond, Some, None, List, [], ◌∷◌, ◌++◌, length, take, reverse, ◌⊎◌, inl, inr, refl, ap, sym, ◌∙◌, arith, find, reverse-append, reverse-reverse, length-append, length-take, same_Some, take-append_seam, In}
use mathlib.Core.List.{reverse_aux}

-- a list by its last item, seen from there
pub reverse_snoc : {A : Type 0} (xs : List A) (x : A) → reverse (xs ++ x ∷ []) ≡ x ∷ reverse xs
reverse_snoc xs x = reverse-append xs (x ∷ [])

without_last : {A : Type 0} (xs : List A) (x : A) → take (length (xs ++ x ∷ []) - 1) (xs ++ x ∷ []) ≡ xs
without_last xs x =
    let l : length (xs ++ x ∷ []) ≡ length xs + 1 = length-append xs (x ∷ []) in
    let n : length (xs ++ x ∷ []) - 1 ≡ length xs = omega arith in
    ap (λ k. take k (xs ++ x ∷ [])) n ∙ take-append_seam xs (x ∷ [])

-- without its last item, seen from there
pub reverse_popped : {A : Type 0} (xs : List A) (x : A) (rest : List A) → reverse xs ≡ x ∷ rest → reverse (take (length xs - 1) xs) ≡ rest
reverse_popped xs x rest is =
    let whole : xs ≡ reverse rest ++ x ∷ [] =
    sym (reverse-reverse xs) ∙ (ap reverse is ∙ (ap (λ l. reverse (x ∷ l)) (sym (reverse-reverse rest)) ∙ (ap reverse (sym (reverse_snoc (reverse rest) x)) ∙ reverse-reverse (reverse rest ++ x ∷ [])))) in
    ap (λ l. reverse (take (length l - 1) l)) whole ∙ (ap reverse (without_last (reverse rest) x) ∙ reverse-reverse rest)

pub length_popped : {A : Type 0} (xs ys : List A) → ys ≡ take (length xs - 1) xs → length ys ≡ length xs - 1
length_popped xs ys is = ap length is ∙ (length-take (length xs - 1) xs ∙ omega arith)

-- ---- members

in_aux : {A : Type 0} (l r : List A) (x : A) → In (reverse_aux l r) x → In l x ⊎ In r x
in_aux [] r x h = inr h
in_aux (y ∷ l) r x h = elim (in_aux l (y ∷ r) x h) [ inl i ↦ inl (inr i) | inr i ↦ elim i [ inl e ↦ inl (inl e) | inr j ↦ inr j ] ]

aux_in : {A : Type 0} (l r : List A) (x : A) → In l x ⊎ In r x → In (reverse_aux l r) x
aux_in [] r x (inl h) = absurd h
aux_in [] r x (inr h) = h
aux_in (y ∷ l) r x (inl (inl e)) = aux_in l (y ∷ r) x (inr (inl e))
aux_in (y ∷ l) r x (inl (inr i)) = aux_in l (y ∷ r) x (inl i)
aux_in (y ∷ l) r x (inr i) = aux_in l (y ∷ r) x (inr (inr i))

pub from_reversed : {A : Type 0} (l : List A) (x : A) → In (reverse l) x → In l x
from_reversed l x h = elim (in_aux l [] x h) [ inl i ↦ i | inr i ↦ absurd i ]

pub to_reversed : {A : Type 0} (l : List A) (x : A) → In l x → In (reverse l) x
to_reversed l x i = aux_in l [] x (inl i)

found_step : {A : Type 0} (p : A → Bool) (y x : A) (ys : List A) (b : Bool) → p y ≡ b → (find p ys ≡ Some x → In ys x × (p x ≡ true)) → cond b (Some y) (find p ys) ≡ Some x → In (y ∷ ys) x × (p x ≡ true)
found_step p y x ys true is rest e = let same : y ≡ x = same_Some y x e in (inl same, sym (ap p same) ∙ is)
found_step p y x ys false is rest e = let r = rest e in (inr r.0, r.1)

-- what is found is in the list and passes
pub found_in : {A : Type 0} (p : A → Bool) (xs : List A) (x : A) → find p xs ≡ Some x → In xs x × (p x ≡ true)
found_in p [] x e = absurd cc
found_in p (y ∷ ys) x e = found_step p y x ys (p y) refl (found_in p ys x) e

none_step : {A : Type 0} (p : A → Bool) (y x : A) (ys : List A) (b : Bool) → p y ≡ b → (find p ys ≡ None → In ys x → p x ≡ false) → cond b (Some y) (find p ys) ≡ None → In (y ∷ ys) x → p x ≡ false
none_step p y x ys true is rest e i = absurd cc
none_step p y x ys false is rest e (inl same) = sym (ap p same) ∙ is
none_step p y x ys false is rest e (inr i) = rest e i

-- where none is found, none passes
pub none_found : {A : Type 0} (p : A → Bool) (xs : List A) (x : A) → find p xs ≡ None → In xs x → p x ≡ false
none_found p [] x e i = absurd i
none_found p (y ∷ ys) x e i = none_step p y x ys (p y) refl (none_found p ys x) e i
