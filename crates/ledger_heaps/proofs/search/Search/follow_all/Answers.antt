use Rattle.ledger_heaps.proofs.Common.{refl, ◌∙◌, flat_map, refs_at}
use Rattle.ledger_heaps.proofs.Meets.{more_met, flat_append, flat_one}
use Rattle.ledger_heaps.proofs.search.Search.follow_all.Goals as goal

pub loop-name-preserved : goal.loop-name-preserved
loop-name-preserved c = record {
  met = more_met (flat_map (refs_at c.args.machine.now.store)) (refs_at c.args.machine.now.store) (flat_append (refs_at c.args.machine.now.store)) (flat_one (refs_at c.args.machine.now.store)) c.args.names.now c.loop-name.name-index _ _ c.loop-name-test.true refl _ _ _ _ _ _ c.loop-name.invariant.met c.in_ok-follow.ensures.met;
  left = c.in_ok-follow.ensures.left ∙ c.loop-name.invariant.left;
}
