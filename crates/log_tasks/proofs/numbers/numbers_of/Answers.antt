use Rattle.log_tasks.proofs.Common.{◌∙◌, ℕ, List, sym, subst, Contains}
use Rattle.log_tasks.proofs.numbers.numbers_of.Goals as goal

pub returns-clause-kept : goal.returns-clause-kept
returns-clause-kept c = λ n h.
    let items = c.in_ok-numbers.ensures.items_if_clones_equal (λ x y e. e) ∙ c.as_slice.ensures in
    subst (λ (ns : List ℕ). Contains ns n) (sym c.from_vec.ensures) (c.each_once.ensures.kept n (subst (λ (ns : List ℕ). Contains ns n) (sym items) h))

pub returns-clause-no_other : goal.returns-clause-no_other
returns-clause-no_other c = λ n h.
    let items = c.in_ok-numbers.ensures.items_if_clones_equal (λ x y e. e) ∙ c.as_slice.ensures in
    subst (λ (ns : List ℕ). Contains ns n) items (c.each_once.ensures.no_other n (subst (λ (ns : List ℕ). Contains ns n) c.from_vec.ensures h))
