-- The first names of a table.
use Rattle.text_faults.proofs.Common.{◌≡◌, ◌≤◌, ℕ, zero, suc, List, [], ◌∷◌, ◌++◌, ◌+◌, add-one, map, take, arith, ap, sym, ◌∙◌, inl, inr, Option, Some, None, slice_get, take_all, slice_get_cases, NotedName}

-- if no name stands at a place, all names stand before it
all_taken : (es : List NotedName) (k n : ℕ) → slice_get es k ≡ None → k ≤ n → take k es ≡ take n es
all_taken es k n e le = elim (slice_get_cases es k).1 [
  | inl some ↦ absurd (none_is (sym some.2 ∙ e))
  | inr past ↦ take_all k es past.0 ∙ sym (take_all n es (omega (arith, past.0, le)))
]
  where
    none_is : {x : NotedName} → ◌≡◌ {A = Option NotedName} (Some x) None → ⊥
    none_is d = cc

pub none_named : (es : List NotedName) (k n : ℕ) → slice_get es k ≡ None → k ≤ n → map (λ e. e.name) (take k es) ≡ map (λ e. e.name) (take n es)
none_named es k n e le = ap (map (λ (x : NotedName). x.name)) (all_taken es k n e le)

pub taken_more : (es : List NotedName) (k : ℕ) (here : NotedName) → slice_get es k ≡ Some here → map (λ e. e.name) (take (k + 1) es) ≡ map (λ e. e.name) (take k es) ++ here.name ∷ []
taken_more es k here e = rw add-one (more es k here e)
  where
    some_is : (a b : NotedName) → ◌≡◌ {A = Option NotedName} (Some a) (Some b) → a ≡ b
    some_is a b d = cc

    more : (xs : List NotedName) (j : ℕ) (here : NotedName) → slice_get xs j ≡ Some here → map (λ e. e.name) (take (suc j) xs) ≡ map (λ e. e.name) (take j xs) ++ here.name ∷ []
    more [] j here d = absurd (cc)
    more (x ∷ xs) zero here d = ap (λ (n : NotedName). n.name ∷ []) (some_is x here d)
    more (x ∷ xs) (suc j) here d = ap (λ l. x.name ∷ l) (more xs j here d)
