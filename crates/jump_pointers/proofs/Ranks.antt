-- Far links and their ranks.
use Rattle.jump_pointers.proofs.Common.{◌≡◌, ℕ, zero, suc, ◌+◌, ◌-◌, ◌^◌, ◌<◌, ◌≤◌, Option, inl, inr, ap, arith, cases_lt, pow_below, AreLinked, HasRank, span}

pub twice : (k : ℕ) → 2 ^ suc k ≡ 2 ^ k + 2 ^ k
twice k = omega arith

pub some_power : (k : ℕ) → 1 ≤ 2 ^ k
some_power zero = omega arith
some_power (suc k) =
    let p : 1 ≤ 2 ^ k = some_power k in
    let t : 2 ^ suc k ≡ 2 ^ k + 2 ^ k = twice k in
    omega arith

pub power_upto : (i j : ℕ) → i ≤ j → 2 ^ i ≤ 2 ^ j
power_upto i j le =
    elim (cases_lt i j) [
      | inl lt ↦ let more : 2 ^ i < 2 ^ j = pow_below i j lt in omega arith
      | inr ge ↦
          let same : i ≡ j = omega arith in
          let e : 2 ^ i ≡ 2 ^ j = ap (λ (k : ℕ). 2 ^ k) same in
          omega arith
    ]

-- powers of two are ordered as their exponents
pub exponent_upto : (i j : ℕ) → 2 ^ i ≤ 2 ^ j → i ≤ j
exponent_upto i j le =
    elim (cases_lt j i) [
      | inl lt ↦ let more : 2 ^ j < 2 ^ i = pow_below j i lt in absurd (omega arith)
      | inr ge ↦ ge
    ]

pub exponent_below : (i j : ℕ) → 2 ^ i < 2 ^ j → i < j
exponent_below i j lt =
    elim (cases_lt i j) [
      | inl below ↦ below
      | inr ge ↦ elim (cases_lt j i) [
        | inl over ↦ let more : 2 ^ j < 2 ^ i = pow_below j i over in absurd (omega arith)
        | inr le ↦
            let same : i ≡ j = omega arith in
            let e : 2 ^ i ≡ 2 ^ j = ap (λ (k : ℕ). 2 ^ k) same in
            absurd (omega arith)
      ]
    ]

-- the span of a far link of rank r is 2 ^ (r + 1) - 1, so one less than a power of two
pub rank_span : (n : ℕ) (par : ℕ → Option ℕ) (dep far : ℕ → ℕ) → AreLinked n par dep far → (rank t : ℕ) → HasRank par far rank t → dep t + 1 ≡ dep (far t) + 2 ^ suc rank
rank_span n par dep far links zero t has =
    let d : dep t ≡ dep (far t) + 1 = links.deeper t (far t) has in
    omega arith
rank_span n par dep far links (suc rank) t has =
    let p = has.0 in
    let d : dep t ≡ dep p + 1 = links.deeper t p has.1 in
    let a : dep p + 1 ≡ dep (far p) + 2 ^ suc rank = rank_span n par dep far links rank p has.2 in
    let b : dep (far p) + 1 ≡ dep (far (far p)) + 2 ^ suc rank = rank_span n par dep far links rank (far p) has.3 in
    let ends : dep (far t) ≡ dep (far (far p)) = ap dep has.4 in
    let double : 2 ^ suc (suc rank) ≡ 2 ^ suc rank + 2 ^ suc rank = twice (suc rank) in
    omega arith

-- far links of equal span are of one rank
pub same_rank : (n : ℕ) (par : ℕ → Option ℕ) (dep far : ℕ → ℕ) → AreLinked n par dep far → (i j t u : ℕ) → HasRank par far i t → HasRank par far j u → span dep far t ≡ span dep far u → i ≡ j
same_rank n par dep far links i j t u has_t has_u same =
    let a : dep t + 1 ≡ dep (far t) + 2 ^ suc i = rank_span n par dep far links i t has_t in
    let b : dep u + 1 ≡ dep (far u) + 2 ^ suc j = rank_span n par dep far links j u has_u in
    let p : 1 ≤ 2 ^ suc i = some_power (suc i) in
    let q : 1 ≤ 2 ^ suc j = some_power (suc j) in
    let e : dep t - dep (far t) ≡ dep u - dep (far u) = same in
    let le : suc i ≤ suc j = exponent_upto (suc i) (suc j) (omega arith) in
    let ge : suc j ≤ suc i = exponent_upto (suc j) (suc i) (omega arith) in
    omega arith
