use Rattle.memory_scenes.proofs.Common.{arith, All-map, as_reference, IsSoundReference}
use Rattle.memory_scenes.proofs.soundness.roots_are_sound.Goals as goal

pub returns : goal.returns
returns c = λ h. All-map (IsSoundReference c.args.heap.now.chunks) as_reference c.args.roots.now (λ k d lt. c.loop-root.invariant k d (let t = c.loop-root-test.false in omega arith))
