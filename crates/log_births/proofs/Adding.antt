-- What is found at an act is added to what was found before.
use Rattle.log_births.proofs.Common.{◌≡◌, ◌<◌, ◌≤◌, ◌+◌, ◌++◌, ◌∷◌, ◌∙◌, ◌⊎◌, inl, inr, ℕ, List, [], length, get_or, map, refl, sym, ap, subst, Option, Some, None, append-nil, arith, option_to_list, IsStrictlyIncreasing, cases_lt, map-append, length-append, get_or_append_left, get_or_push, get_or_from_slice_get, In, got_in, in_append_left, in_append_right, in_append_cases, got_some, map_got, below_next, Finding, AreJustBelow}

-- ASCENDING NUMBERS

module _ (xs : List ℕ) (x : ℕ) (up : IsStrictlyIncreasing xs) (all : (k : ℕ) → k < length xs → get_or xs k 0 < x) where
  step_by : (k : ℕ) → k + 1 < length xs + 1 → (k + 1 < length xs) ⊎ (length xs ≤ k + 1) → get_or (xs ++ x ∷ []) k 0 < get_or (xs ++ x ∷ []) (k + 1) 0
  step_by k lt (inl within) =
      let first = get_or_append_left xs (x ∷ []) 0 k (omega (arith, within)) in
      let second = get_or_append_left xs (x ∷ []) 0 (k + 1) within in
      let less : get_or xs k 0 < get_or xs (k + 1) 0 = up k within in
      omega (arith, first, second, less)
  step_by k lt (inr past) =
      let first = get_or_append_left xs (x ∷ []) 0 k (omega (arith, lt)) in
      let second = get_or_push xs x 0 (k + 1) (omega (arith, lt, past)) in
      let less = all k (omega (arith, lt)) in
      omega (arith, first, second, less)

  pub ascending_push : IsStrictlyIncreasing (xs ++ x ∷ [])
  ascending_push k lt = let within : k + 1 < length xs + 1 = omega (arith, lt, length-append xs (x ∷ [])) in step_by k within (cases_lt (k + 1) (length xs))

-- ONE ACT MORE

pub same_finding : (f g : Finding) → f.block ≡ g.block → f.line ≡ g.line → f.other ≡ g.other → f ≡ g
same_finding f g block line other =
    ap (λ (b : ℕ). record { block = b; line = f.line; other = f.other }) block
    ∙ ap (λ (n : ℕ). record { block = g.block; line = n; other = f.other }) line
    ∙ ap (λ (n : ℕ). record { block = g.block; line = g.line; other = n }) other

module _ (Is : Finding → Type 0) (n : ℕ) (found : List Finding) (just : AreJustBelow Is n found) where
  lines_below : (k : ℕ) → k < length (map (λ (f : Finding). f.line) found) → get_or (map (λ (f : Finding). f.line) found) k 0 < n
  lines_below k lt =
      let got = got_some (map (λ (f : Finding). f.line) found) k lt in
      let one = map_got (λ (f : Finding). f.line) found k got.0 got.1 in
      let below = ((just.are one.0).0 (got_in found k one.0 one.1)).0 in
      let same = get_or_from_slice_get (map (λ (f : Finding). f.line) found) k got.0 0 got.1 in
      omega (arith, below, same, one.2)

  -- nothing is found
  pub none_found : ((f : Finding) → f.line ≡ n → Is f → ⊥) → AreJustBelow Is (n + 1) found
  none_found none = record {
    ascending = just.ascending;
    are = λ f. (
      λ i. let h = (just.are f).0 i in (let lt = h.0 in omega (arith, lt), h.1),
      λ h. by_line f h.1 (below_next f.line n h.0),
    );
  }
    where
      by_line : (f : Finding) → Is f → (f.line < n) ⊎ (f.line ≡ n) → In found f
      by_line f is (inl below) = (just.are f).1 (below, is)
      by_line f is (inr same) = absurd (none f same is)

  -- this one is found
  pub one_found : (g : Finding) → g.line ≡ n → Is g → ((f : Finding) → f.line ≡ n → Is f → g ≡ f) → AreJustBelow Is (n + 1) (found ++ g ∷ [])
  one_found g here is only = record {
    ascending =
        subst IsStrictlyIncreasing (sym (map-append (λ (f : Finding). f.line) found (g ∷ [])))
        (ascending_push (map (λ (f : Finding). f.line) found) g.line just.ascending (λ k lt. let below = lines_below k lt in omega (arith, below, here)));
    are = λ f. (λ i. from_in f (in_append_cases found (g ∷ []) f i), λ h. by_line f h.1 (below_next f.line n h.0));
  }
    where
      from_in : (f : Finding) → In found f ⊎ In (g ∷ []) f → (f.line < n + 1) × Is f
      from_in f (inl i) = let h = (just.are f).0 i in (let lt = h.0 in omega (arith, lt), h.1)
      from_in f (inr (inl e)) = (let same : g.line ≡ f.line = ap (λ (x : Finding). x.line) e in omega (arith, same, here), subst Is e is)
      from_in f (inr (inr i)) = absurd i

      by_line : (f : Finding) → Is f → (f.line < n) ⊎ (f.line ≡ n) → In (found ++ g ∷ []) f
      by_line f so (inl below) = in_append_left found (g ∷ []) f ((just.are f).1 (below, so))
      by_line f so (inr same) = in_append_right found (g ∷ []) f (inl (only f same so))

  pub answer_found : (answer : Option Finding) (new : List Finding) → new ≡ found ++ option_to_list answer → ((f : Finding) → answer ≡ Some f → (f.line ≡ n) × Is f)
      → ((f : Finding) → f.line ≡ n → Is f → answer ≡ Some f) → AreJustBelow Is (n + 1) new
  answer_found None new is sound all = subst (AreJustBelow Is (n + 1)) (sym (is ∙ append-nil found)) (none_found (λ f same so. (let z : None ≡ Some f = all f same so in cc)))
  answer_found (Some g) new is sound all =
      let here = sound g refl in
      subst (AreJustBelow Is (n + 1)) (sym is) (one_found g here.0 here.1 (λ f same so. same_some g f (all f same so)))
    where
      same_some : (x y : Finding) → Some x ≡ Some y → x ≡ y
      same_some x y e = cc
