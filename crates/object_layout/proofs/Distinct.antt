-- Lists of distinct addresses.
use Rattle.object_layout.proofs.Common.{◌≡◌, ℕ, zero, suc, ◌==◌, true, false, List, [], ◌∷◌, ◌++◌, take, Contains, inl, inr, refl, ap, sym, subst, AllByRecursion, and_from, and_parts, both_ways, eq-eqb, eqb-true, false_from_ne_true, In, contains_from_in, in_append_cases, in_from_contains, in_take, Addr, same_address}
use Rattle.std.specs.List.{IsDistinct}
use Rattle.object_layout.proofs.ChunkLaws.{same_addr}

-- by the members of the list
abbrev pub Once : List Addr → Type 0
Once [] = Unit {0}
Once (x ∷ xs) = (Contains xs x → ⊥) × Once xs

pub same_is : (a b : Addr) → same_address a b ≡ true → a ≡ b
same_is a b e =
    let p = and_parts (a.chunk == b.chunk) (a.offset == b.offset) e in
    same_addr a b (eqb-true a.chunk b.chunk p.0) (eqb-true a.offset b.offset p.1)

pub is_same : (a b : Addr) → a ≡ b → same_address a b ≡ true
is_same a b e = and_from (a.chunk == b.chunk) (a.offset == b.offset) (eq-eqb a.chunk b.chunk (ap (λ (x : Addr). x.chunk) e)) (eq-eqb a.offset b.offset (ap (λ (x : Addr). x.offset) e))

pub same_self : (a : Addr) → same_address a a ≡ true
same_self a = and_from (a.chunk == a.chunk) (a.offset == a.offset) (eq-eqb a.chunk a.chunk refl) (eq-eqb a.offset a.offset refl)

pub none_from : (x : Addr) (ys : List Addr) → AllByRecursion (λ y. same_address x y ≡ false) ys → In ys x → ⊥
none_from x [] a i = i
none_from x (y ∷ ys) a (inl e) = both_ways (same_address x y) a.0 (subst (λ z. same_address x z ≡ true) (sym e) (same_self x))
none_from x (y ∷ ys) a (inr i) = none_from x ys a.1 i

none_to : (x : Addr) (ys : List Addr) → (Contains ys x → ⊥) → AllByRecursion (λ y. same_address x y ≡ false) ys
none_to x [] n = tt
none_to x (y ∷ ys) n = (false_from_ne_true (same_address x y) (λ e. n (contains_from_in (y ∷ ys) x (inl (sym (same_is x y e))))), none_to x ys (λ c. n (contains_from_in (y ∷ ys) x (inr (in_from_contains ys x c)))))

pub once_from : (xs : List Addr) → IsDistinct same_address xs → Once xs
unfolding IsDistinct
once_from [] d = tt
once_from (x ∷ xs) d = ((λ c. none_from x xs d.0 (in_from_contains xs x c)), once_from xs d.1)

pub distinct_from : (xs : List Addr) → Once xs → IsDistinct same_address xs
unfolding IsDistinct
distinct_from [] o = tt
distinct_from (x ∷ xs) o = (none_to x xs o.0, distinct_from xs o.1)

-- one more of them
pub once_push : (xs : List Addr) (a : Addr) → Once xs → (In xs a → ⊥) → Once (xs ++ a ∷ [])
once_push [] a o n = ((λ i. let j = in_from_contains [] a i in j), tt)
once_push (x ∷ xs) a o n = (
  (λ i. elim (in_append_cases xs (a ∷ []) x (in_from_contains _ x i)) [
    | inl j ↦ o.0 (contains_from_in xs x j)
    | inr j ↦ elim j [ inl e ↦ n (inl (sym e)) | inr z ↦ z ]
  ]),
  once_push xs a o.1 (λ i. n (inr i)),
)

-- the first n of them
once_take : (n : ℕ) (xs : List Addr) → Once xs → Once (take n xs)
once_take zero xs o = tt
once_take (suc n) [] o = tt
once_take (suc n) (x ∷ xs) o = ((λ c. o.0 (contains_from_in xs x (in_take n xs x (in_from_contains (take n xs) x c)))), once_take n xs o.1)

pub distinct_take : (n : ℕ) (xs : List Addr) → IsDistinct same_address xs → IsDistinct same_address (take n xs)
distinct_take n xs d = distinct_from (take n xs) (once_take n xs (once_from xs d))
