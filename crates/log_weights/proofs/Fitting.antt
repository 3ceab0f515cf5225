-- Sums that may not fit in 64 bits.
use Rattle.log_weights.proofs.Common.{◌≡◌, ◌<◌, ◌≤◌, ◌+◌, ◌^◌, ◌∙◌, ◌⊎◌, inl, inr, ℕ, Bool, true, false, sym, ap, Option, Some, None, nat_lt, arith, if◌then◌else◌, cases_lt, nat_tests, fitting, plus}

pub fits : (n : ℕ) → n < 2 ^ 64 → fitting n ≡ Some n
fits n lt = ap (λ (b : Bool). if b then Some n else None) (let t : nat_lt n (2 ^ 64) ≡ true = grind (arith, nat_tests, lt) in t)

pub fits_not : (n : ℕ) → 2 ^ 64 ≤ n → fitting n ≡ None
fits_not n le = ap (λ (b : Bool). if b then Some n else None) (let t : nat_lt n (2 ^ 64) ≡ false = grind (arith, nat_tests, le) in t)

fits_by : (n : ℕ) → (n < 2 ^ 64) ⊎ (2 ^ 64 ≤ n) → fitting n ≡ None → 2 ^ 64 ≤ n
fits_by n (inl lt) e = absurd (let z : Some n ≡ None = sym (fits n lt) ∙ e in cc)
fits_by n (inr le) e = le

pub too_much : (n : ℕ) → fitting n ≡ None → 2 ^ 64 ≤ n
too_much n e = fits_by n (cases_lt n (2 ^ 64)) e

fit_by : (n w : ℕ) → (n < 2 ^ 64) ⊎ (2 ^ 64 ≤ n) → Some w ≡ fitting n → w ≡ n
fit_by n w (inl lt) e = let z : Some w ≡ Some n = e ∙ fits n lt in cc
fit_by n w (inr le) e = absurd (let z : Some w ≡ None = e ∙ fits_not n le in cc)

pub fit_is : (n w : ℕ) → Some w ≡ fitting n → w ≡ n
fit_is n w e = fit_by n w (cases_lt n (2 ^ 64)) e

plus_by : (a b : ℕ) → (a < 2 ^ 64) ⊎ (2 ^ 64 ≤ a) → (b < 2 ^ 64) ⊎ (2 ^ 64 ≤ b) → plus (fitting a) (fitting b) ≡ fitting (a + b)
plus_by a b (inl p) (inl q) = ap (λ (o : Option ℕ). plus o (fitting b)) (fits a p) ∙ ap (plus (Some a)) (fits b q)
plus_by a b (inl p) (inr q) = ap (λ (o : Option ℕ). plus o (fitting b)) (fits a p) ∙ ap (plus (Some a)) (fits_not b q) ∙ sym (fits_not (a + b) (omega (arith, q)))
plus_by a b (inr p) other = ap (λ (o : Option ℕ). plus o (fitting b)) (fits_not a p) ∙ sym (fits_not (a + b) (omega (arith, p)))

-- sums that fit add up to one that fits, if any does
pub plus_fitting : (a b : ℕ) → plus (fitting a) (fitting b) ≡ fitting (a + b)
plus_fitting a b = plus_by a b (cases_lt a (2 ^ 64)) (cases_lt b (2 ^ 64))
