use Rattle.run_deltas.proofs.Common.{refl, names_of_references, registers}
use Rattle.run_deltas.proofs.Held.{more_roots, registers_append, registers_one}
use Rattle.run_deltas.proofs.roots.add_frames.Goals as goal

pub loop-frame-preserved : goal.loop-frame-preserved
loop-frame-preserved c =
    more_roots registers (λ f. names_of_references f.refs) registers_append registers_one c.args.frames.now c.loop-frame.frame-index _ _ c.loop-frame-test.true refl
    c.args.found.now c.loop-frame.found _ c.loop-frame.invariant c.in_ok-add_references.ensures
