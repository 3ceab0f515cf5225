use Rattle.log_tasks.proofs.Common.{ℕ, List, eqb, subst, sym, Contains, IsStrictlyIncreasing, dedup_is, Contains-dedup_nat, Contains-from_dedup, Contains-permutation, IsPermutation-sym, IsStrictlyIncreasing-dedup}
use Rattle.log_tasks.proofs.numbers.each_once.Goals as goal

pub returns : goal.returns
returns c =
    let sorted = c.sort_unstable.new.self.items in
    let e = dedup_is eqb sorted c.dedup.new.self.items c.dedup.ensures.filtered in
    record {
      ascending = subst (λ (xs : List ℕ). IsStrictlyIncreasing xs) (sym e) (IsStrictlyIncreasing-dedup sorted c.sort_unstable.ensures.sorted);
      kept = λ n h. subst (λ (xs : List ℕ). Contains xs n) (sym e) (Contains-dedup_nat sorted n (Contains-permutation c.args.numbers.items sorted n c.sort_unstable.ensures.permutation h));
      no_other = λ n h. Contains-permutation sorted c.args.numbers.items n (IsPermutation-sym _ _ c.sort_unstable.ensures.permutation) (Contains-from_dedup eqb sorted n (subst (λ (xs : List ℕ). Contains xs n) e h));
    }
