-- One step up in the walks that find an owner and a path.
use Rattle.hh_model.proofs.Common.{◌≡◌, ℕ, zero, suc, ◌+◌, ◌-◌, ◌<◌, Bool, true, false, cond, ◌||◌, ◌==◌, Option, Some, refl, ap, ◌∙◌, arith, through, owner_by, path_by}

module _ (par : ℕ → Option ℕ) where
  pub path_here : (k a t : ℕ) → (a == t) ≡ true → path_by par k a t ≡ true
  path_here zero a t e = e
  path_here (suc k) a t e = ap (λ b. b || through (par t) false (path_by par k a)) e

  path_next : (k a t : ℕ) (o : Option ℕ) → (a == t) ≡ false → par t ≡ o → path_by par (suc k) a t ≡ through o false (path_by par k a)
  path_next k a t o e is = ap (λ b. b || through (par t) false (path_by par k a)) e ∙ ap (λ x. through x false (path_by par k a)) is

  -- one task higher, with one step less allowed
  pub path_up : (k j a t p : ℕ) → j < k → (a == t) ≡ false → par t ≡ Some p → path_by par (k - j) a t ≡ path_by par (k - (j + 1)) a p
  path_up k j a t p lt e is = ap (λ x. path_by par x a t) (let s : k - j ≡ suc (k - (j + 1)) = omega arith in s) ∙ path_next (k - (j + 1)) a t (Some p) e is

  module _ (jd : ℕ → Bool) where
    pub owner_here : (k t : ℕ) → jd t ≡ false → owner_by par jd k t ≡ t
    owner_here zero t e = refl
    owner_here (suc k) t e = ap (λ b. cond b (through (par t) t (owner_by par jd k)) t) e

    owner_next : (k t : ℕ) (o : Option ℕ) → jd t ≡ true → par t ≡ o → owner_by par jd (suc k) t ≡ through o t (owner_by par jd k)
    owner_next k t o e is = ap (λ b. cond b (through (par t) t (owner_by par jd k)) t) e ∙ ap (λ x. through x t (owner_by par jd k)) is

    pub owner_up : (k j t p : ℕ) → j < k → jd t ≡ true → par t ≡ Some p → owner_by par jd (k - j) t ≡ owner_by par jd (k - (j + 1)) p
    owner_up k j t p lt e is = ap (λ x. owner_by par jd x t) (let s : k - j ≡ suc (k - (j + 1)) = omega arith in s) ∙ owner_next (k - (j + 1)) t (Some p) e is
