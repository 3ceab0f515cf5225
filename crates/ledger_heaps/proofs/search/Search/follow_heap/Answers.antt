use Rattle.ledger_heaps.proofs.Common.{get_or, ap, rules, ◌∙◌, flat_map, refs_at}
use Rattle.ledger_heaps.proofs.Meets.{more_met, twice, twice_append, twice_one}
use Rattle.ledger_heaps.proofs.search.Search.follow_heap.Goals as goal

pub loop-names-preserved : goal.loop-names-preserved
loop-names-preserved c = record {
  met = more_met (twice (refs_at c.args.machine.now.store)) (flat_map (refs_at c.args.machine.now.store)) (twice_append (refs_at c.args.machine.now.store)) (twice_one (refs_at c.args.machine.now.store)) c.args.heap.now.chunks c.loop-names.names-index c.as_slice.result.now c.names-item.result (search rules) (c.as_slice.ensures ∙ (c.names-item.is ∙ ap (λ xs. get_or xs c.loop-names.names-index c.names-item.result) c.as_slice-names-items.ensures)) _ _ _ _ _ _ c.loop-names.invariant.met c.in_ok-follow_all.ensures.met;
  left = c.in_ok-follow_all.ensures.left ∙ c.loop-names.invariant.left;
}
