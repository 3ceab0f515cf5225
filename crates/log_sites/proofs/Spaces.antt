-- What stands behind the first space.
use Rattle.log_sites.proofs.Common.{◌≡◌, ◌∙◌, ◌<◌, ◌+◌, ◌==◌, ℕ, suc, Bool, true, false, cond, List, [], ◌∷◌, length, drop, drop-cons, add-one, get_or, refl, ap, sym, arith, drop_all, behind_space}

module _ (text : List ℕ) (i : ℕ) (lt : i < length text) where
  next : (b : Bool) → (get_or text i 0 == 32) ≡ b → behind_space (drop i text) ≡ cond b (drop (i + 1) text) (behind_space (drop (i + 1) text))
  next b e =
      ap behind_space (drop-cons text i 0 lt)
      ∙ ap (λ t. cond t (drop (suc i) text) (behind_space (drop (suc i) text))) e
      ∙ rw add-one refl

  pub step : (get_or text i 0 == 32) ≡ false → behind_space (drop (i + 1) text) ≡ behind_space (drop i text)
  step e = sym (next false e)

  pub found : (get_or text i 0 == 32) ≡ true → drop (i + 1) text ≡ behind_space (drop i text)
  found e = sym (next true e)

pub at_end : (text : List ℕ) (i : ℕ) → length text ≡ i → [] ≡ behind_space (drop i text)
at_end text i e = ap behind_space (sym (drop_all i text (omega arith)))
