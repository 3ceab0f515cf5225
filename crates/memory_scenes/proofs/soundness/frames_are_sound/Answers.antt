use Rattle.memory_scenes.proofs.Common.{arith, IsSoundReference}
use Rattle.memory_scenes.proofs.Checks.{held_stack}
use Rattle.memory_scenes.proofs.soundness.frames_are_sound.Goals as goal

pub returns : goal.returns
returns c = λ h. held_stack (IsSoundReference c.args.heap.now.chunks) c.args.frames.now c.loop-frame.frame (let t = c.loop-frame-test.false in let d = c.depth-frame-end.ensures.count in omega arith) c.loop-frame.invariant
