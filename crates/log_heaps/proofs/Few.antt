-- Counts that few acts can reach.
use Rattle.log_heaps.proofs.Common.{◌≡◌, ◌≤◌, ◌+◌, ℕ, Bool, true, false, arith, is_some, WalkValue, Act, BlockLines, Tally, stored, counted, AreTakenAt, HasFew}

counted_most : (n : ℕ) (more : Bool) → counted n more ≤ n + 1
counted_most n true = omega arith
counted_most n false = omega arith

-- one act more counts one more at most
pub few_more : (walk : WalkValue) (births : BlockLines) (act : Act) (place line : ℕ) (before after : Tally) → HasFew before line → AreTakenAt walk births act place line before after → HasFew after (line + 1)
few_more walk births act place line before after few taken = record {
  stores =
      let le : before.stores ≤ line = few.stores in
      let is : after.stores ≡ counted before.stores (is_some (stored act)) = taken.stores_are in
      let most : counted before.stores (is_some (stored act)) ≤ before.stores + 1 = counted_most before.stores (is_some (stored act)) in
      omega (arith, le, is, most);
  down =
      let le : before.down ≤ line = few.down in
      let is : after.down ≡ counted before.down taken.is_down = taken.down_are in
      let most : counted before.down taken.is_down ≤ before.down + 1 = counted_most before.down taken.is_down in
      omega (arith, le, is, most);
}

pub few_kept : (tally : Tally) (line : ℕ) → HasFew tally line → HasFew tally (line + 1)
few_kept tally line few = record {
  stores = let le : tally.stores ≤ line = few.stores in omega (arith, le);
  down = let le : tally.down ≤ line = few.down in omega (arith, le);
}
