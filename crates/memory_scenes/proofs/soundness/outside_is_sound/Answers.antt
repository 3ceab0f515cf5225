use Rattle.memory_scenes.proofs.Common.{map, All-append, frames_of, as_reference, frame_references, IsSoundReference}
use Rattle.memory_scenes.proofs.soundness.outside_is_sound.Goals as goal

pub returns : goal.returns
returns c = λ h. All-append (IsSoundReference c.args.heap.now.chunks) (frame_references (frames_of c.args.frames.now)) (map as_reference c.args.roots.now) (c.frames_are_sound.ensures c.if-not-frames_are_sound.false) (c.roots_are_sound.ensures h)
