use Rattle.log_report.proofs.Common.{List, rules, sym, subst, IsNonDecreasingBy, IsNonDecreasingBy-from_sort_by_key, ToldRace, first_place}
use Rattle.log_report.proofs.order.in_order.Goals as goal

pub returns-clause-sorted : goal.returns-clause-sorted
returns-clause-sorted c =
    subst (λ (rs : List ToldRace). IsNonDecreasingBy first_place rs) (sym c.from_vec.ensures)
    (IsNonDecreasingBy-from_sort_by_key (λ r. first_place r) _ c.sort_unstable_by_key.ensures.sorted (λ a r q k. search rules))
