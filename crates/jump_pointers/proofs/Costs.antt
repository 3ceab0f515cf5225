-- How many links a climb follows.
use Rattle.jump_pointers.proofs.Common.{◌≡◌, ℕ, zero, suc, ◌+◌, ◌-◌, ◌*◌, ◌^◌, ◌<◌, ◌≤◌, Option, Some, inl, inr, refl, sym, ap, subst, ◌∙◌, arith, cases_lt, same_Some, AreLinked, HasRank, IsNextLink, Within, span}
use Rattle.jump_pointers.proofs.Ranks.{rank_span, exponent_below, some_power}

-- the next link is the far one or the one to the parent
pub within_next : (par : ℕ → Option ℕ) (dep far : ℕ → ℕ) (least m t up : ℕ) → least < dep t → IsNextLink par dep far least t up → Within par dep far least m t → (k : ℕ) × (suc k ≡ m) × Within par dep far least k up
within_next par dep far least zero t up lt next le = absurd (omega arith)
within_next par dep far least (suc m) t up lt next w =
    elim w [
      | inl le ↦ absurd (omega arith)
      | inr go ↦ (m, refl, go up next)
    ]

log_above : (i log : ℕ) → 2 ^ i < 2 ^ suc log → i ≤ log
log_above i log lt =
    let below : i < suc log = exponent_below i (suc log) lt in
    omega arith

module _ (n : ℕ) (par : ℕ → Option ℕ) (dep far : ℕ → ℕ) (links : AreLinked n par dep far) (least : ℕ) where
  within_already : (m t : ℕ) → dep t ≤ least → Within par dep far least m t
  within_already zero t le = le
  within_already (suc m) t le = inl le

  by_far : (m t : ℕ) → least ≤ dep (far t) → Within par dep far least m (far t) → Within par dep far least (suc m) t
  by_far m t le w =
      inr (λ up next. elim next [
        | inl along ↦ subst (Within par dep far least m) (sym along.1) w
        | inr near ↦ let lt : dep (far t) < least = near.0 in absurd (omega arith)
      ])

  by_parent : (m t p : ℕ) → dep (far t) < least → par t ≡ Some p → Within par dep far least m p → Within par dep far least (suc m) t
  by_parent m t p lt e w =
      inr (λ up next. elim next [
        | inl along ↦ let le : least ≤ dep (far t) = along.0 in absurd (omega arith)
        | inr near ↦ subst (Within par dep far least m) (same_Some p up (sym e ∙ near.1)) w
      ])

  -- below the target of a far link, at most two links for each rank lead there, and one more
  inside : (rank t : ℕ) → HasRank par far rank t → dep (far t) ≤ least → (m : ℕ) → 2 * rank + 1 ≤ m → Within par dep far least m t
  inside rank t has le zero big = absurd (omega arith)
  inside zero t has le (suc m) big =
      let d : dep t ≡ dep (far t) + 1 = links.deeper t (far t) has in
      elim (cases_lt least (dep t)) [
        | inl lt ↦ by_far m t (omega arith) (within_already m (far t) le)
        | inr ge ↦ within_already (suc m) t ge
      ]
  inside (suc rank) t has le (suc zero) big = absurd (omega arith)
  inside (suc rank) t has le (suc (suc m)) big =
      let p = has.0 in
      let ends : dep (far t) ≡ dep (far (far p)) = ap dep has.4 in
      elim (cases_lt (dep (far t)) least) [
        | inr ge ↦ by_far (suc m) t ge (within_already (suc m) (far t) le)
        | inl lt ↦ by_parent (suc m) t p lt has.1 (elim (cases_lt least (dep (far p))) [
          | inl above ↦ by_far m p (omega arith) (inside rank (far p) has.3 (omega arith) m (omega arith))
          | inr near ↦ inside rank p has.2 near (suc m) (omega arith)
        ])
      ]

  module _ (log fuel rank t : ℕ) (made : t < n) (deep : dep t + 1 < 2 ^ suc log) (has : HasRank par far rank t) (longer : 0 < dep (far t) → span dep far t < span dep far (far t)) where
    low_rank : suc rank ≤ log
    low_rank =
        let s : dep t + 1 ≡ dep (far t) + 2 ^ suc rank = rank_span n par dep far links rank t has in
        log_above (suc rank) log (omega arith)

    -- the target of the far link has a far link of a higher rank
    over : least < dep (far t) → (m : ℕ) → 3 * log ≤ m + rank + 2 → log ≤ rank + suc fuel
        → ((rank' more : ℕ) → far t < n → dep (far t) + 1 < 2 ^ suc log → HasRank par far rank' (far t)
        → (0 < dep (far (far t)) → span dep far (far t) < span dep far (far (far t))) → log ≤ rank' + fuel → 3 * log ≤ more + rank' + 2 → Within par dep far least more (far t))
        → Within par dep far least m t
    over lt zero big enough go = let l : suc rank ≤ log = low_rank in absurd (omega arith)
    over lt (suc m) big enough go =
        let low : far t ≤ t = links.far_low t made in
        let above : far t < n = omega arith in
        let next = links.ranked (far t) above (omega arith) in
        let s : dep t + 1 ≡ dep (far t) + 2 ^ suc rank = rank_span n par dep far links rank t has in
        let s' : dep (far t) + 1 ≡ dep (far (far t)) + 2 ^ suc next.0 = rank_span n par dep far links next.0 (far t) next.1 in
        let more : dep t - dep (far t) < dep (far t) - dep (far (far t)) = longer (omega arith) in
        let some : 1 ≤ 2 ^ suc rank = some_power (suc rank) in
        let higher : suc rank < suc next.0 = exponent_below (suc rank) (suc next.0) (omega arith) in
        by_far m t (omega arith) (go next.0 m above (omega arith) next.1 (links.longer t made) (omega arith) (omega arith))

  -- if each far link is longer than the one before, each one followed gains a rank
  outside : (log fuel rank t : ℕ) → t < n → dep t + 1 < 2 ^ suc log → HasRank par far rank t
      → (0 < dep (far t) → span dep far t < span dep far (far t)) → log ≤ rank + fuel → (m : ℕ) → 3 * log ≤ m + rank + 2 → Within par dep far least m t
  outside log zero rank t made deep has longer enough m big =
      let l : suc rank ≤ log = low_rank log zero rank t made deep has longer in
      absurd (omega arith)
  outside log (suc fuel) rank t made deep has longer enough m big =
      let l : suc rank ≤ log = low_rank log fuel rank t made deep has longer in
      elim (cases_lt least (dep (far t))) [
        | inr ge ↦ inside rank t has ge m (omega arith)
        | inl lt ↦ over log fuel rank t made deep has longer lt m big enough
            (λ rank' more above deep' has' longer' enough' big'. outside log fuel rank' (far t) above deep' has' longer' enough' more big')
      ]

  -- the first far link may be as long as the second
  from_first : (log rank t : ℕ) → t < n → dep t + 1 < 2 ^ suc log → HasRank par far rank t → (m : ℕ) → 3 * log ≡ m → Within par dep far least m t
  from_first log rank t made deep has zero is =
      let s : dep t + 1 ≡ dep (far t) + 2 ^ suc rank = rank_span n par dep far links rank t has in
      let l : suc rank ≤ log = log_above (suc rank) log (omega arith) in
      absurd (omega arith)
  from_first log rank t made deep has (suc m) is =
      let s : dep t + 1 ≡ dep (far t) + 2 ^ suc rank = rank_span n par dep far links rank t has in
      let l : suc rank ≤ log = log_above (suc rank) log (omega arith) in
      let some : 1 ≤ 2 ^ suc rank = some_power (suc rank) in
      elim (cases_lt least (dep (far t))) [
        | inr ge ↦ inside rank t has ge (suc m) (omega arith)
        | inl lt ↦
            let low : far t ≤ t = links.far_low t made in
            let above : far t < n = omega arith in
            let next = links.ranked (far t) above (omega arith) in
            by_far m t (omega arith) (outside log log next.0 (far t) above (omega arith) next.1 (links.longer t made) (omega arith) m (omega arith))
      ]

  -- at most three times the logarithm of depth + 1
  pub few_links : (log t : ℕ) → t < n → dep t + 1 < 2 ^ (log + 1) → Within par dep far least (3 * log) t
  few_links log t made deep =
      let next : log + 1 ≡ suc log = omega arith in
      let deep' : dep t + 1 < 2 ^ suc log = rw next at deep in
      elim (cases_lt 0 (dep t)) [
        | inl lt ↦ let r = links.ranked t made lt in from_first log r.0 t made deep' r.1 (3 * log) refl
        | inr flat ↦ within_already (3 * log) t (omega arith)
      ]
