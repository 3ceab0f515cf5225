-- A byte among letters, one letter after another.
use Rattle.log_lines.proofs.Common.{◌≡◌, ◌<◌, ◌≤◌, ◌+◌, ◌==◌, ◌||◌, ◌∙◌, ℕ, suc, Bool, true, false, List, length, drop, drop-cons, drop_all, get_or, arith, sym, ap, is_among}

module _ (letters : List ℕ) (i c d : ℕ) (lt : i < length letters) where
  next : (b : Bool) → (get_or letters i d == c) ≡ b → is_among (drop i letters) c ≡ (b || is_among (drop (i + 1) letters) c)
  next b e =
      ap (λ (ds : List ℕ). is_among ds c) (drop-cons letters i d lt)
      ∙ ap (λ (t : Bool). t || is_among (drop (suc i) letters) c) e
      ∙ ap (λ (k : ℕ). b || is_among (drop k letters) c) (let s : suc i ≡ i + 1 = omega arith in s)

  pub among_next : (get_or letters i d == c) ≡ false → is_among (drop (i + 1) letters) c ≡ is_among (drop i letters) c
  among_next e = sym (next false e)

  pub among_found : (get_or letters i d == c) ≡ true → true ≡ is_among (drop i letters) c
  among_found e = sym (next true e)

pub among_end : (letters : List ℕ) (i c : ℕ) → length letters ≤ i → false ≡ is_among (drop i letters) c
among_end letters i c le = sym (ap (λ (ds : List ℕ). is_among ds c) (drop_all i letters le))
