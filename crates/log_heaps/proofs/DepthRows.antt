-- The rows on depths.
use Rattle.log_heaps.proofs.Common.{◌≡◌, ◌<◌, ◌+◌, ◌++◌, ◌∙◌, ℕ, Bool, true, false, List, length, get_or, refl, sym, ap, subst, Option, Some, None, arith, nat_tests, same_Some, slice_get-get_or, ◌==◌, option_to_list, if◌then◌else◌, HeapDepth, BlockBirth, DepthSums, AreThose, IsDepthRow, depth_row, blocks_at, IsBelow, row_if, sums_at, HasSums, AreAbove}
use Rattle.log_heaps.proofs.Those.{answer_more, all_below}
use Rattle.log_heaps.proofs.Sums.{some_birth}

abbrev depth_of : HeapDepth → ℕ
depth_of row = row.depth

module _ (births : List BlockBirth) (own : ℕ → Bool) where
  row_by : (depth : ℕ) (test : Bool) → (blocks_at depth births == 0) ≡ test → (row : HeapDepth) → (if test then None else Some (depth_row births own depth)) ≡ Some row → (row.depth ≡ depth) × IsDepthRow births own row
  row_by depth true e row is = absurd (let z : ◌≡◌ {A = Option HeapDepth} None (Some row) = is in cc)
  row_by depth false e row is =
      let some : 0 < blocks_at depth births = grind (arith, nat_tests, e) in
      subst (λ (r : HeapDepth). (r.depth ≡ depth) × IsDepthRow births own r) (same_Some (depth_row births own depth) row is) (refl, (refl, some))

  by_row : (depth : ℕ) (test : Bool) → (blocks_at depth births == 0) ≡ test → 0 < blocks_at depth births → (if test then None else Some (depth_row births own depth)) ≡ Some (depth_row births own depth)
  by_row depth true e lt = absurd (let z : blocks_at depth births ≡ 0 = grind (arith, nat_tests, e) in omega (arith, z, lt))
  by_row depth false e lt = refl

  -- the row on one depth more
  pub rows_more : (depth : ℕ) (sums : DepthSums) (before after : List HeapDepth) → sums ≡ sums_at births own depth → after ≡ before ++ option_to_list (row_if depth sums)
      → AreThose depth_of (IsBelow depth_of (IsDepthRow births own) depth) before → AreThose depth_of (IsBelow depth_of (IsDepthRow births own) (depth + 1)) after
  rows_more depth sums before after e is those =
      answer_more depth_of (IsDepthRow births own) depth before those (row_if depth (sums_at births own depth)) after (is ∙ ap (λ (x : DepthSums). before ++ option_to_list (row_if depth x)) e)
      (λ row some. row_by depth (blocks_at depth births == 0) refl row some)
      (λ row same is_row.
      let row_is : row ≡ depth_row births own depth = is_row.0 ∙ ap (depth_row births own) same in
      let lt : 0 < blocks_at depth births = subst (λ (r : HeapDepth). 0 < r.blocks) row_is is_row.1 in
      by_row depth (blocks_at depth births == 0) refl lt ∙ ap (λ (r : HeapDepth). Some r) (sym row_is))

  -- all rows
  pub all_rows : (depth : ℕ) (rows : List HeapDepth) → AreAbove births depth → AreThose depth_of (IsBelow depth_of (IsDepthRow births own) depth) rows → AreThose depth_of (IsDepthRow births own) rows
  all_rows depth rows above those = all_below depth_of (IsDepthRow births own) depth rows below those
    where
      below : (row : HeapDepth) → IsDepthRow births own row → row.depth < depth
      below row is =
          let some = some_birth row.depth births (subst (λ (r : HeapDepth). 0 < r.blocks) is.0 is.1) in
          let lt : some.1.depth < depth = above some.0 some.1 some.2 in
          let same : some.1.depth ≡ row.depth = some.3 in
          omega (arith, lt, same)

-- the sums at a place are those of its depth
pub sums_there : (births : List BlockBirth) (own : ℕ → Bool) (sums : List DepthSums) (depth : ℕ) (d : DepthSums) → depth < length sums → HasSums births own sums → get_or sums depth d ≡ sums_at births own depth
sums_there births own sums depth d lt has = same_Some (get_or sums depth d) (sums_at births own depth) (sym (slice_get-get_or sums depth d lt) ∙ has depth lt)
