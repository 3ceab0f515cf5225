-- Sums of births by depth.
use Rattle.log_heaps.proofs.Common.{◌≡◌, ◌<◌, ◌≤◌, ◌+◌, ◌^◌, ◌∙◌, inl, inr, ℕ, Bool, true, false, List, [], ◌∷◌, length, get_or, take, refl, sym, ap, subst, Some, slice_get, arith, suc, ◌==◌, sum_by, slice_set, if◌then◌else◌, cases_eq, nat_tests, sum_by_more, sum_by_more_le, sum_by-cons, sum_by-take-le, same_Some, slice_get-get_or, get_or_from_slice_get, got_same, got_other, BlockBirth, DepthSums, at_depth, blocks_at, words_at, own_at, words_if, added, sums_at, HasSums}

here_is : (depth : ℕ) (birth : BlockBirth) (n : ℕ) → birth.depth ≡ depth → at_depth depth birth n ≡ n
here_is depth birth n e = ap (λ (b : Bool). if b then n else 0) (let t : (birth.depth == depth) ≡ true = grind (arith, nat_tests, e) in t)

elsewhere_is : (depth : ℕ) (birth : BlockBirth) (n : ℕ) → (birth.depth ≡ depth → ⊥) → at_depth depth birth n ≡ 0
elsewhere_is depth birth n apart = other (birth.depth == depth) refl
  where
    other : (b : Bool) → (birth.depth == depth) ≡ b → (if b then n else 0) ≡ 0
    other true e = absurd (apart (let same : birth.depth ≡ depth = grind (arith, nat_tests, e) in same))
    other false e = refl

at_most : (depth : ℕ) (birth : BlockBirth) (n m : ℕ) → n ≤ m → at_depth depth birth n ≤ at_depth depth birth m
at_most depth birth n m le = by_test (birth.depth == depth)
  where
    by_test : (b : Bool) → (if b then n else 0) ≤ (if b then m else 0)
    by_test true = le
    by_test false = omega arith

-- BOUNDS

own_words : (own : ℕ → Bool) (birth : BlockBirth) → words_if own birth ≤ birth.words
own_words own birth = by_test (own birth.block)
  where
    by_test : (b : Bool) → (if b then birth.words else 0) ≤ birth.words
    by_test true = omega arith
    by_test false = omega arith

pub own_within : (depth : ℕ) (own : ℕ → Bool) (births : List BlockBirth) → own_at depth own births ≤ words_at depth births
own_within depth own [] = omega arith
own_within depth own (b ∷ bs) =
    let first : at_depth depth b (words_if own b) ≤ at_depth depth b b.words = at_most depth b (words_if own b) b.words (own_words own b) in
    let rest : own_at depth own bs ≤ words_at depth bs = own_within depth own bs in
    let own_cons : own_at depth own (b ∷ bs) ≡ at_depth depth b (words_if own b) + own_at depth own bs = sum_by-cons (λ (x : BlockBirth). at_depth depth x (words_if own x)) b bs in
    let words_cons : words_at depth (b ∷ bs) ≡ at_depth depth b b.words + words_at depth bs = sum_by-cons (λ (x : BlockBirth). at_depth depth x x.words) b bs in
    omega (arith, first, rest, own_cons, words_cons)

one_block : (depth : ℕ) (birth : BlockBirth) → at_depth depth birth 1 ≤ 1
one_block depth birth = by_test (birth.depth == depth)
  where
    by_test : (b : Bool) → (if b then 1 else 0) ≤ 1
    by_test true = omega arith
    by_test false = omega arith

pub blocks_within : (depth : ℕ) (births : List BlockBirth) → blocks_at depth births ≤ length births
blocks_within depth [] = omega arith
blocks_within depth (b ∷ bs) =
    let first : at_depth depth b 1 ≤ 1 = one_block depth b in
    let rest : blocks_at depth bs ≤ length bs = blocks_within depth bs in
    let cons : blocks_at depth (b ∷ bs) ≡ at_depth depth b 1 + blocks_at depth bs = sum_by-cons (λ x. at_depth depth x 1) b bs in
    omega (arith, first, rest, cons)

-- where blocks are born there is a birth
pub some_birth : (depth : ℕ) (births : List BlockBirth) → 0 < blocks_at depth births → (k : ℕ) × (birth : BlockBirth) × (slice_get births k ≡ Some birth) × (birth.depth ≡ depth)
some_birth depth [] lt = absurd (omega (arith, lt))
some_birth depth (b ∷ bs) lt =
    elim (cases_eq b.depth depth) [
      | inl same ↦ (0, b, refl, same)
      | inr apart ↦ (
          let none : at_depth depth b 1 ≡ 0 = elsewhere_is depth b 1 apart in
          let cons : blocks_at depth (b ∷ bs) ≡ at_depth depth b 1 + blocks_at depth bs = sum_by-cons (λ x. at_depth depth x 1) b bs in
          let rest = some_birth depth bs (omega (arith, lt, none, cons)) in
          (suc rest.0, rest.1, rest.2, rest.3)
          )
    ]

-- ONE BIRTH MORE

module _ (births : List BlockBirth) (own : ℕ → Bool) (i : ℕ) (birth : BlockBirth) (lt : i < length births) (is : birth ≡ get_or births i birth) where
  more_of : (f : BlockBirth → ℕ) → sum_by f (take (i + 1) births) ≡ sum_by f (take i births) + f birth
  more_of f = sum_by_more f births i birth lt ∙ ap (λ (b : BlockBirth). sum_by f (take i births) + f b) (sym is)

  sums_here : (depth : ℕ) → birth.depth ≡ depth → sums_at (take (i + 1) births) own depth ≡ added (sums_at (take i births) own depth) birth (own birth.block)
  sums_here depth e = λ j. record {
    blocks = (more_of (λ b. at_depth depth b 1) ∙ ap (λ (n : ℕ). blocks_at depth (take i births) + n) (here_is depth birth 1 e)) j;
    words = (more_of (λ (b : BlockBirth). at_depth depth b b.words) ∙ ap (λ (n : ℕ). words_at depth (take i births) + n) (here_is depth birth birth.words e)) j;
    own = (more_of (λ (b : BlockBirth). at_depth depth b (words_if own b)) ∙ ap (λ (n : ℕ). own_at depth own (take i births) + n) (here_is depth birth (words_if own birth) e)) j;
  }

  none_here : (f : BlockBirth → ℕ) → f birth ≡ 0 → sum_by f (take (i + 1) births) ≡ sum_by f (take i births)
  none_here f e = let more = more_of f in omega (arith, more, e)

  sums_elsewhere : (depth : ℕ) → (birth.depth ≡ depth → ⊥) → sums_at (take (i + 1) births) own depth ≡ sums_at (take i births) own depth
  sums_elsewhere depth apart = λ j. record {
    blocks = none_here (λ b. at_depth depth b 1) (elsewhere_is depth birth 1 apart) j;
    words = none_here (λ (b : BlockBirth). at_depth depth b b.words) (elsewhere_is depth birth birth.words apart) j;
    own = none_here (λ (b : BlockBirth). at_depth depth b (words_if own b)) (elsewhere_is depth birth (words_if own birth) apart) j;
  }

  -- the words so far and those of the birth are within all
  pub words_more : words_at birth.depth (take i births) + birth.words ≤ words_at birth.depth births
  words_more =
      let f = λ (b : BlockBirth). at_depth birth.depth b b.words in
      let le : sum_by f (take i births) + f (get_or births i birth) ≤ sum_by f births = sum_by_more_le f births i birth lt in
      let same : f (get_or births i birth) ≡ birth.words = ap f (sym is) ∙ here_is birth.depth birth birth.words refl in
      omega (arith, le, same)

  module _ (sums : List DepthSums) (has : HasSums (take i births) own sums) (old : DepthSums) (got : slice_get sums birth.depth ≡ Some old) (there : birth.depth < length sums) where
    pub old_is : old ≡ sums_at (take i births) own birth.depth
    old_is = same_Some old (sums_at (take i births) own birth.depth) (sym got ∙ has birth.depth there)

    -- the sums with it
    pub sums_more : (new : List DepthSums) → new ≡ slice_set sums birth.depth (added old birth (own birth.block)) → length new ≡ length sums → HasSums (take (i + 1) births) own new
    sums_more new e size depth within =
        elim (cases_eq birth.depth depth) [
          | inl same ↦ ap (λ (xs : List DepthSums). slice_get xs depth) e
              ∙ subst (λ (d : ℕ). slice_get (slice_set sums birth.depth (added old birth (own birth.block))) d ≡ Some (added old birth (own birth.block))) same
              (got_same sums birth.depth old (added old birth (own birth.block)) got)
              ∙ ap (λ (x : DepthSums). Some (added x birth (own birth.block))) (old_is ∙ ap (sums_at (take i births) own) same)
              ∙ ap (λ (x : DepthSums). Some x) (sym (sums_here depth same))
          | inr apart ↦ ap (λ (xs : List DepthSums). slice_get xs depth) e
              ∙ got_other sums birth.depth depth (added old birth (own birth.block)) (λ same. apart (sym same))
              ∙ has depth (let lt' : depth < length sums = omega (arith, within, size) in lt')
              ∙ ap (λ (x : DepthSums). Some x) (sym (sums_elsewhere depth apart))
        ]

-- THE NEXT BIRTH

module _ (births : List BlockBirth) (own : ℕ → Bool) (i : ℕ) (d : BlockBirth) (lt : i < length births) (sums : List DepthSums) (has : HasSums (take i births) own sums) (old : DepthSums)
    (got : slice_get sums (get_or births i d).depth ≡ Some old) (there : (get_or births i d).depth < length sums) where
  is_birth : get_or births i d ≡ get_or births i (get_or births i d)
  is_birth = sym (get_or_from_slice_get births i (get_or births i d) (get_or births i d) (slice_get-get_or births i d lt))

  old_sums : old ≡ sums_at (take i births) own (get_or births i d).depth
  old_sums = old_is births own i (get_or births i d) lt is_birth sums has old got there

  pub blocks_fit : old.blocks ≤ length births
  blocks_fit =
      let same : old.blocks ≡ blocks_at (get_or births i d).depth (take i births) = ap (λ (x : DepthSums). x.blocks) old_sums in
      let part : blocks_at (get_or births i d).depth (take i births) ≤ blocks_at (get_or births i d).depth births = sum_by-take-le (λ b. at_depth (get_or births i d).depth b 1) births i in
      let all : blocks_at (get_or births i d).depth births ≤ length births = blocks_within (get_or births i d).depth births in
      omega (arith, same, part, all)

  pub own_fits : old.own ≤ old.words
  own_fits =
      let same : old.own ≡ own_at (get_or births i d).depth own (take i births) = ap (λ (x : DepthSums). x.own) old_sums in
      let words : old.words ≡ words_at (get_or births i d).depth (take i births) = ap (λ (x : DepthSums). x.words) old_sums in
      let le : own_at (get_or births i d).depth own (take i births) ≤ words_at (get_or births i d).depth (take i births) = own_within (get_or births i d).depth own (take i births) in
      omega (arith, same, words, le)

  -- where the words don't fit, those of all births don't
  pub words_over : 2 ^ 64 ≤ old.words + (get_or births i d).words → (depth : ℕ) × (2 ^ 64 ≤ words_at depth births)
  words_over over =
      let words : old.words ≡ words_at (get_or births i d).depth (take i births) = ap (λ (x : DepthSums). x.words) old_sums in
      let le : words_at (get_or births i d).depth (take i births) + (get_or births i d).words ≤ words_at (get_or births i d).depth births = words_more births own i (get_or births i d) lt is_birth in
      ((get_or births i d).depth, omega (arith, over, words, le))

  pub sums_next : (new : List DepthSums) → new ≡ slice_set sums (get_or births i d).depth (added old (get_or births i d) (own (get_or births i d).block)) → length new ≡ length sums → HasSums (take (i + 1) births) own new
  sums_next new e size = sums_more births own i (get_or births i d) lt is_birth sums has old got there new e size

-- at first the sums are 0
pub no_sums : (births : List BlockBirth) (own : ℕ → Bool) (sums : List DepthSums) (none : DepthSums) → none ≡ record { blocks = 0; words = 0; own = 0 } → ((k : ℕ) → k < length sums → slice_get sums k ≡ Some none) → HasSums (take 0 births) own sums
no_sums births own sums none e all depth lt = all depth lt ∙ ap (λ (x : DepthSums). Some x) e
