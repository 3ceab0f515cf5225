use Rattle.leaf_collections.proofs.Common.{◌≡◌, List, ap, rules, sym, subst, ◌∙◌, reverse, IsNonDecreasingBy, IsPermutation, reverse-reverse, IsNonDecreasingBy-from_sort_by_key, IsPermutation-reverse, IsPermutation-trans, ChunkValue}
use Rattle.leaf_collections.proofs.leaf_begin.put_falling.Goals as goal

pub returns-clause-permutation : goal.returns-clause-permutation
returns-clause-permutation c =
    let sorted : List ChunkValue = c.sort_unstable_by_key.new.self.items in
    IsPermutation-trans _ sorted _ c.sort_unstable_by_key.ensures.permutation
    (subst (λ (xs : List ChunkValue). IsPermutation sorted xs) (sym c.reverse.ensures.items) (IsPermutation-reverse sorted))

pub returns-clause-falling : goal.returns-clause-falling
returns-clause-falling c =
    let sorted : List ChunkValue = c.sort_unstable_by_key.new.self.items in
    let back : reverse c.reverse.new.self.items ≡ sorted = ap reverse c.reverse.ensures.items ∙ reverse-reverse sorted in
    subst (IsNonDecreasingBy (λ (k : ChunkValue). k.number)) (sym back)
    (IsNonDecreasingBy-from_sort_by_key (λ k. k.number) _ c.sort_unstable_by_key.ensures.sorted (λ a r q k. search rules))
