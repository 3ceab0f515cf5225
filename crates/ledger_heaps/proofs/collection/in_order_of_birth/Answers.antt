use Rattle.ledger_heaps.proofs.Common.{◌∙◌, ap, by_birth}
use Rattle.ledger_heaps.proofs.Birth.{sorted_is_by_birth}
use Rattle.ledger_heaps.proofs.collection.in_order_of_birth.Goals as goal

pub returns : goal.returns
returns c =
    c.from_vec.ensures ∙ sorted_is_by_birth c.into_vec-sorted.result.items c.sort_unstable.new.self.items c.sort_unstable.ensures.permutation c.sort_unstable.ensures.sorted
    ∙ ap by_birth c.into_vec-sorted.ensures
