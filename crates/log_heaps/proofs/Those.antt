-- Lists of those things that are so, by ascending keys.
use Rattle.log_heaps.proofs.Common.{◌≡◌, ◌<◌, ◌+◌, ◌++◌, ◌∷◌, ◌∙◌, ◌⊎◌, inl, inr, ℕ, List, [], length, get_or, map, refl, sym, ap, subst, Option, Some, None, append-nil, arith, option_to_list, IsStrictlyIncreasing, map-append, get_or_from_slice_get, In, got_in, in_append_left, in_append_right, in_append_cases, got_some, map_got, below_next, ascending_push, AreThose, IsBelow}

-- ONE KEY MORE

module _ {A : Type 0} (key : A → ℕ) (Is : A → Type 0) (n : ℕ) (xs : List A) (those : AreThose key (IsBelow key Is n) xs) where
  pub keys_below : (k : ℕ) → k < length (map key xs) → get_or (map key xs) k 0 < n
  keys_below k lt =
      let got = got_some (map key xs) k lt in
      let one = map_got key xs k got.0 got.1 in
      let below : key one.0 < n = ((those.are one.0).0 (got_in xs k one.0 one.1)).0 in
      let same = get_or_from_slice_get (map key xs) k got.0 0 got.1 in
      omega (arith, below, same, one.2)

  -- nothing has the key
  pub none_more : ((x : A) → key x ≡ n → Is x → ⊥) → AreThose key (IsBelow key Is (n + 1)) xs
  none_more none = record {
    ascending = those.ascending;
    are = λ x. (
      λ i. let h = (those.are x).0 i in (let lt : key x < n = h.0 in omega (arith, lt), h.1),
      λ h. member x h.1 (below_next (key x) n h.0),
    );
  }
    where
      member : (x : A) → Is x → (key x < n) ⊎ (key x ≡ n) → In xs x
      member x is (inl below) = (those.are x).1 (below, is)
      member x is (inr same) = absurd (none x same is)

  -- one thing has the key
  pub one_more : (y : A) → key y ≡ n → Is y → ((x : A) → key x ≡ n → Is x → y ≡ x) → AreThose key (IsBelow key Is (n + 1)) (xs ++ y ∷ [])
  one_more y here is only = record {
    ascending =
        subst IsStrictlyIncreasing (sym (map-append key xs (y ∷ [])))
        (ascending_push (map key xs) (key y) those.ascending (λ k lt. let below = keys_below k lt in omega (arith, below, here)));
    are = λ x. (λ i. found x (in_append_cases xs (y ∷ []) x i), λ h. member x h.1 (below_next (key x) n h.0));
  }
    where
      found : (x : A) → In xs x ⊎ In (y ∷ []) x → (key x < n + 1) × Is x
      found x (inl i) = let h = (those.are x).0 i in (let lt : key x < n = h.0 in omega (arith, lt), h.1)
      found x (inr (inl e)) = (let same : key y ≡ key x = ap key e in omega (arith, same, here), subst Is e is)
      found x (inr (inr i)) = absurd i

      member : (x : A) → Is x → (key x < n) ⊎ (key x ≡ n) → In (xs ++ y ∷ []) x
      member x so (inl below) = in_append_left xs (y ∷ []) x ((those.are x).1 (below, so))
      member x so (inr same) = in_append_right xs (y ∷ []) x (inl (only x same so))

  -- what an answer has is the only one, if there is one
  pub answer_more : (answer : Option A) (new : List A) → new ≡ xs ++ option_to_list answer → ((x : A) → answer ≡ Some x → (key x ≡ n) × Is x)
      → ((x : A) → key x ≡ n → Is x → answer ≡ Some x) → AreThose key (IsBelow key Is (n + 1)) new
  answer_more None new is sound all = subst (AreThose key (IsBelow key Is (n + 1))) (sym (is ∙ append-nil xs)) (none_more (λ x same so. (let z : ◌≡◌ {A = Option A} None (Some x) = all x same so in cc)))
  answer_more (Some y) new is sound all =
      let here = sound y refl in
      subst (AreThose key (IsBelow key Is (n + 1))) (sym is) (one_more y here.0 here.1 (λ x same so. same_some y x (all x same so)))
    where
      same_some : (x z : A) → Some x ≡ Some z → x ≡ z
      same_some x z e = cc

-- ALL

pub nothing_below : {A : Type 0} (key : A → ℕ) (Is : A → Type 0) (xs : List A) → xs ≡ [] → AreThose key (IsBelow key Is 0) xs
nothing_below key Is xs e = subst (AreThose key (IsBelow key Is 0)) (sym e) (record {
  ascending = λ k lt. absurd (omega (arith, lt));
  are = λ x. (λ i. absurd i, λ h. absurd (let lt : key x < 0 = h.0 in omega (arith, lt)));
})

pub all_below : {A : Type 0} (key : A → ℕ) (Is : A → Type 0) (n : ℕ) (xs : List A) → ((x : A) → Is x → key x < n) → AreThose key (IsBelow key Is n) xs → AreThose key Is xs
all_below key Is n xs below those = record { ascending = those.ascending; are = λ x. (λ i. ((those.are x).0 i).1, λ is. (those.are x).1 (below x is, is)) }
