use Rattle.ledger_heaps.proofs.Common.{refl, ◌∙◌, names_of_references, registers}
use Rattle.ledger_heaps.proofs.Meets.{more_met, registers_append, registers_one}
use Rattle.ledger_heaps.proofs.search.Search.meet_frames.Goals as goal

pub loop-frame-preserved : goal.loop-frame-preserved
loop-frame-preserved c = record {
  met = more_met registers (λ f. names_of_references f.refs) registers_append registers_one c.args.frames.now c.loop-frame.frame-index _ _ c.loop-frame-test.true refl _ _ _ _ _ _ c.loop-frame.invariant.met c.in_ok-meet_references.ensures.met;
  left = c.in_ok-meet_references.ensures.left ∙ c.loop-frame.invariant.left;
}
