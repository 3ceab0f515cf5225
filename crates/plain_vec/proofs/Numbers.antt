-- Comparisons of numbers with zero and with the successor.
use Rattle.std.proofs.Common.{◌≡◌, ◌<◌, ◌+◌, ◌==◌, ◌⊎◌, inl, inr, ℕ, suc, true, false, nat_lt, arith}
use Rattle.std.proofs.lemmas.Bool.{cases_lt}

pub not_zero : (n : ℕ) → 0 < n → (n == 0) ≡ false
not_zero n lt = grind arith

pub above_zero : (n : ℕ) → nat_lt 0 (suc n) ≡ true
above_zero n = grind arith

-- n < k + 1 means n < k or n ≡ k
pub below_next : (n k : ℕ) → n < k + 1 → (n < k) ⊎ (n ≡ k)
below_next n k lt = elim (cases_lt n k) [ inl a ↦ inl a | inr a ↦ inr (let e : n ≡ k = omega (arith, a, lt) in e) ]
