-- Numbers in ascending order, and the places at which they stand.
use Rattle.log_tasks.proofs.Common.{◌≡◌, ◌<◌, ◌≤◌, ◌+◌, ◌-◌, ◌==◌, ◌∷◌, ◌∙◌, ◌⊎◌, inl, inr, ℕ, zero, suc, Bool, true, false, List, [], length, get_or, refl, sym, ap, subst, arith, Ok, Err, nat_cmp, nat_lt, if◌then◌else◌, position_or_len, IsStrictlyIncreasing, IsBinarySearchResult, searched, nat_tests, cases_lt, position_or_len_is, In, place_or_root, task_of}

-- where an item stands
pub in_at : (numbers : List ℕ) (n : ℕ) → In numbers n → (k : ℕ) × (k < length numbers) × (get_or numbers k 0 ≡ n)
in_at [] n h = absurd h
in_at (x ∷ xs) n (inl e) = (0, omega arith, e)
in_at (x ∷ xs) n (inr h) = let r = in_at xs n h in let lt = r.1 in (suc r.0, omega (arith, lt), r.2)

pub at_in : (numbers : List ℕ) (k : ℕ) → k < length numbers → In numbers (get_or numbers k 0)
at_in [] k lt = absurd (omega (arith, lt))
at_in (x ∷ xs) zero lt = inl refl
at_in (x ∷ xs) (suc k) lt = inr (at_in xs k (omega (arith, lt)))

module _ (numbers : List ℕ) (up : IsStrictlyIncreasing numbers) where
  rises_by : (d k l : ℕ) → l ≡ k + suc d → l < length numbers → get_or numbers k 0 < get_or numbers l 0
  rises_by zero k l e lt =
      let next : l ≡ k + 1 = omega (arith, e) in
      let step : get_or numbers k 0 < get_or numbers (k + 1) 0 = up k (omega (arith, next, lt)) in
      subst (λ (m : ℕ). get_or numbers k 0 < get_or numbers m 0) (sym next) step
  rises_by (suc d) k l e lt =
      let next : l ≡ (k + suc d) + 1 = omega (arith, e) in
      let before : get_or numbers k 0 < get_or numbers (k + suc d) 0 = rises_by d k (k + suc d) refl (omega (arith, next, lt)) in
      let step : get_or numbers (k + suc d) 0 < get_or numbers ((k + suc d) + 1) 0 = up (k + suc d) (omega (arith, next, lt)) in
      subst (λ (m : ℕ). get_or numbers k 0 < get_or numbers m 0) (sym next) (omega (arith, before, step))

  pub rises : (k l : ℕ) → k < l → l < length numbers → get_or numbers k 0 < get_or numbers l 0
  rises k l lt there = rises_by (l - suc k) k l (omega (arith, lt)) there

  -- a number stands at one place
  pub one_place : (k l : ℕ) → k < length numbers → l < length numbers → get_or numbers k 0 ≡ get_or numbers l 0 → k ≡ l
  one_place k l kt lt e = by_order (cases_lt k l) (cases_lt l k)
    where
      by_order : (k < l) ⊎ (l ≤ k) → (l < k) ⊎ (k ≤ l) → k ≡ l
      by_order (inl below) other = absurd (let r = rises k l below lt in omega (arith, r, e))
      by_order (inr le) (inl above) = absurd (let r = rises l k above kt in omega (arith, r, e))
      by_order (inr le) (inr ge) = omega (arith, le, ge)

  -- a place is no greater than the number at it
  pub place_below : (k : ℕ) → k < length numbers → k ≤ get_or numbers k 0
  place_below zero lt = omega arith
  place_below (suc k) lt =
      let before = place_below k (omega (arith, lt)) in
      let step = rises k (suc k) (omega arith) lt in
      omega (arith, before, step)

  not_same : (k : ℕ) (n : ℕ) → (get_or numbers k 0 ≡ n → ⊥) → (get_or numbers k 0 == n) ≡ false
  not_same k n differs = by_test (get_or numbers k 0 == n) refl
    where
      by_test : (b : Bool) → (get_or numbers k 0 == n) ≡ b → b ≡ false
      by_test true e = absurd (differs (grind (arith, nat_tests, e)))
      by_test false e = refl

  is_same : (k n : ℕ) → get_or numbers k 0 ≡ n → (get_or numbers k 0 == n) ≡ true
  is_same k n e = grind (arith, nat_tests, e)

  -- the place of a number that stands at one
  pub place_is : (n k : ℕ) → k < length numbers → get_or numbers k 0 ≡ n → position_or_len (λ m. m == n) numbers ≡ k
  place_is n k lt e =
      position_or_len_is (λ m. m == n) numbers k 0 (omega (arith, lt))
      (λ j below. not_same j n (λ f. (let r = rises j k below lt in omega (arith, r, e, f))))
      (λ there. is_same k n e)

  pub task_is : (n k : ℕ) → k < length numbers → get_or numbers k 0 ≡ n → task_of numbers n ≡ k
  task_is n k lt e =
      ap (place_or_root numbers) (place_is n k lt e) ∙ rooted (nat_lt k (length numbers)) (grind (arith, nat_tests, lt))
    where
      rooted : (b : Bool) → b ≡ true → (if b then k else 0) ≡ k
      rooted true t = refl
      rooted false t = absurd (cc)

  -- one that stands nowhere has the root's
  pub none_is : (n : ℕ) → ((k : ℕ) → k < length numbers → get_or numbers k 0 ≡ n → ⊥) → task_of numbers n ≡ 0
  none_is n none =
      ap (place_or_root numbers) (position_or_len_is (λ m. m == n) numbers (length numbers) 0 (omega arith) (λ j below. not_same j n (none j below)) (λ there. absurd (omega (arith, there))))
      ∙ rooted (nat_lt (length numbers) (length numbers)) (let no : length numbers ≤ length numbers = omega arith in grind (arith, nat_tests, no))
    where
      rooted : (b : Bool) → b ≡ false → (if b then length numbers else 0) ≡ 0
      rooted true t = absurd (cc)
      rooted false t = refl

  -- a number that the list has
  pub task_there : (n : ℕ) → In numbers n → (task_of numbers n < length numbers) × (get_or numbers (task_of numbers n) 0 ≡ n)
  task_there n h =
      let r = in_at numbers n h in
      let e = task_is n r.0 r.1 r.2 in
      (subst (λ (k : ℕ). k < length numbers) (sym e) r.1, subst (λ (k : ℕ). get_or numbers k 0 ≡ n) (sym e) r.2)

  not_falling : (i j : ℕ) → i ≤ j → j < length numbers → get_or numbers i 0 ≤ get_or numbers j 0
  not_falling i j le lt = by_order (cases_lt i j)
    where
      by_order : (i < j) ⊎ (j ≤ i) → get_or numbers i 0 ≤ get_or numbers j 0
      by_order (inl less) = let r = rises i j less lt in omega (arith, r)
      by_order (inr ge) = let e : i ≡ j = omega (arith, le, ge) in subst (λ (k : ℕ). get_or numbers i 0 ≤ get_or numbers k 0) e (omega arith)

  -- where a search by halves found a number
  pub found_place : (number task : ℕ) → IsBinarySearchResult (λ y. nat_cmp y number) numbers (Ok task) → (task < length numbers) × (get_or numbers task 0 ≡ number)
  found_place number task h = searched numbers number (Ok task) h not_falling

  -- one that it didn't find stands nowhere
  pub not_found : (number place : ℕ) → IsBinarySearchResult (λ y. nat_cmp y number) numbers (Err place) → (k : ℕ) → k < length numbers → get_or numbers k 0 ≡ number → ⊥
  not_found number place h k lt e = by_order (searched numbers number (Err place) h not_falling) (cases_lt k place)
    where
      by_order : (place ≤ length numbers) × ((j : ℕ) → j < place → get_or numbers j 0 < number) × ((j : ℕ) → place ≤ j → j < length numbers → number < get_or numbers j 0) → (k < place) ⊎ (place ≤ k) → ⊥
      by_order r (inl less) = let b = r.1 k less in omega (arith, b, e)
      by_order r (inr ge) = let a = r.2 k ge lt in omega (arith, a, e)
