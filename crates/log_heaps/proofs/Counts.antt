-- Counts of acts.
use Rattle.log_heaps.proofs.Common.{◌≡◌, ◌<◌, ◌+◌, ◌++◌, ◌∷◌, ◌∙◌, ℕ, Bool, true, false, [], refl, sym, ap, subst, length_push, CountsActs, counted, IsBelow}
use Rattle.log_heaps.proofs.Those.{none_more, one_more, nothing_below, all_below}

module _ (Is : ℕ → Type 0) where
  pub no_count : (count : ℕ) → count ≡ 0 → CountsActs (IsBelow (λ (k : ℕ). k) Is 0) count
  no_count count e = ([], nothing_below (λ (k : ℕ). k) Is [] refl, e)

  -- one act more, which is so or isn't
  pub count_more : (n count more : ℕ) (hit : Bool) → more ≡ counted count hit → (hit ≡ true → Is n) → (Is n → hit ≡ true) → CountsActs (IsBelow (λ (k : ℕ). k) Is n) count → CountsActs (IsBelow (λ (k : ℕ). k) Is (n + 1)) more
  count_more n count more true e sound all (acts, those, is) =
      (acts ++ n ∷ [], one_more (λ (k : ℕ). k) Is n acts those n refl (sound refl) (λ k same so. sym same), e ∙ ap (λ (m : ℕ). m + 1) is ∙ sym (length_push acts n))
  count_more n count more false e sound all (acts, those, is) =
      (acts, none_more (λ (k : ℕ). k) Is n acts those (λ k same so. (let z : false ≡ true = all (subst Is same so) in cc)), e ∙ is)

  pub count_all : (n count : ℕ) → ((k : ℕ) → Is k → k < n) → CountsActs (IsBelow (λ (k : ℕ). k) Is n) count → CountsActs Is count
  count_all n count below (acts, those, is) = (acts, all_below (λ (k : ℕ). k) Is n acts below those, is)
