-- Names that are added one after the other.
use Rattle.run_deltas.proofs.Common.{◌≡◌, ℕ, ◌+◌, ◌<◌, Option, Some, None, List, [], ◌∷◌, ◌++◌, length, take, get_or, refl, ap, sym, ◌∙◌, append_assoc, append-nil, take_more, Name, Frame, names_of_references, registers, with_root, with_roots}

pub roots_append : (found a b : List Name) → with_roots found (a ++ b) ≡ with_roots (with_roots found a) b
roots_append found [] b = refl
roots_append found (n ∷ a) b = roots_append (with_root found n) a b

pub named_append : (xs ys : List (Option Name)) → names_of_references (xs ++ ys) ≡ names_of_references xs ++ names_of_references ys
named_append [] ys = refl
named_append (None ∷ xs) ys = named_append xs ys
named_append (Some n ∷ xs) ys = ap (λ ns. n ∷ ns) (named_append xs ys)

pub registers_append : (xs ys : List Frame) → registers (xs ++ ys) ≡ registers xs ++ registers ys
registers_append [] ys = refl
registers_append (f ∷ xs) ys = ap (λ ns. names_of_references f.refs ++ ns) (registers_append xs ys) ∙ sym (append_assoc (names_of_references f.refs) (registers xs) (registers ys))

pub registers_one : (f : Frame) → registers (f ∷ []) ≡ names_of_references f.refs
registers_one f = append-nil (names_of_references f.refs)

-- what one item more adds behind those so far
pub more_roots : {A : Type 0} (f : List A → List Name) (g : A → List Name) → ((xs ys : List A) → f (xs ++ ys) ≡ f xs ++ f ys) → ((x : A) → f (x ∷ []) ≡ g x)
    → (xs : List A) (i : ℕ) (x d : A) → i < length xs → x ≡ get_or xs i d
    → (found a b : List Name) → a ≡ with_roots found (f (take i xs)) → b ≡ with_roots a (g x) → b ≡ with_roots found (f (take (i + 1) xs))
more_roots f g joins one xs i x d lt is found a b so_far now =
    now ∙ ap (λ ns. with_roots ns (g x)) so_far ∙ sym (roots_append found (f (take i xs)) (g x))
    ∙ ap (with_roots found) (sym (ap f (take_more xs i d lt) ∙ joins (take i xs) (get_or xs i d ∷ []) ∙ ap (λ ns. f (take i xs) ++ ns) (one (get_or xs i d) ∙ ap g (sym is))))
