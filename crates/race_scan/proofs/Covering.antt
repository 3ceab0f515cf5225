-- Which locations a region has.
use Rattle.race_scan.proofs.Common.{◌≡◌, ◌==◌, ◌||◌, ℕ, zero, suc, ◌+◌, ◌<◌, ◌≤◌, Bool, true, false, nat_le, nat_lt, refl, ap, subst, arith, inl, inr, eq-eqb, cases_lt, and_parts, and_from, eqb-true, false≢true, leb-true, le-leb, ltb-true, lt-ltb, Region, run_start, any_below, covers, is_in_run}

or_left : (b c : Bool) → b ≡ true → (b || c) ≡ true
or_left b c e = ap (λ x. x || c) e

or_right : (b c : Bool) → c ≡ true → (b || c) ≡ true
or_right true c e = refl
or_right false c e = e

any_from : (test : ℕ → Bool) (n k : ℕ) → k < n → test k ≡ true → any_below test n ≡ true
any_from test zero k lt pass = absurd (omega arith)
any_from test (suc n) k lt pass =
    elim (cases_lt k n) [
      | inl less ↦ or_right (test n) (any_below test n) (any_from test n k less pass)
      | inr ge ↦ let same : k ≡ n = omega arith in or_left (test n) (any_below test n) (subst (λ m. test m ≡ true) same pass)
    ]

found_by : (test : ℕ → Bool) (n : ℕ) → (any_below test n ≡ true → (k : ℕ) × (k < n) × (test k ≡ true)) → (b : Bool) → test n ≡ b → (b || any_below test n) ≡ true
    → (k : ℕ) × (k < suc n) × (test k ≡ true)
found_by test n more true e h = (n, omega arith, e)
found_by test n more false e h = let m = more h in let lt : m.0 < n = m.1 in (m.0, omega arith, m.2)

any_found : (test : ℕ → Bool) (n : ℕ) → any_below test n ≡ true → (k : ℕ) × (k < n) × (test k ≡ true)
any_found test zero h = absurd (false≢true h)
any_found test (suc n) h = found_by test n (any_found test n) (test n) refl h

pub run_covers : (r : Region) (run x : ℕ) → run < r.runs → run_start r run ≤ x → x < run_start r run + r.length → covers r r.block x ≡ true
run_covers r run x lt from below =
    and_from (r.block == r.block) (any_below (is_in_run r x) r.runs) (eq-eqb r.block r.block refl)
    (any_from (is_in_run r x) r.runs run lt
    (and_from (nat_le (run_start r run) x) (nat_lt x (run_start r run + r.length)) (le-leb (run_start r run) x from) (lt-ltb x (run_start r run + r.length) below)))

-- the run of a location
pub record IsOf (r : Region) (x : ℕ) : Type 0 where
  pub run : ℕ
  pub there : run < r.runs
  pub from : run_start r run ≤ x
  pub below : x < run_start r run + r.length

pub run_of : (r : Region) (block x : ℕ) → covers r block x ≡ true → (r.block ≡ block) × IsOf r x
run_of r block x h =
    let p = and_parts (r.block == block) (any_below (is_in_run r x) r.runs) h in
    let m = any_found (is_in_run r x) r.runs p.1 in
    let q = and_parts (nat_le (run_start r m.0) x) (nat_lt x (run_start r m.0 + r.length)) m.2 in (
      eqb-true r.block block p.0,
      record { run = m.0; there = m.1; from = leb-true (run_start r m.0) x q.0; below = ltb-true x (run_start r m.0 + r.length) q.1 },
    )
