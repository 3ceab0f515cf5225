use Rattle.copying_gc.proofs.Common.{◌≡◌, ◌++◌, take, drop, map, frames_of, followed_ref, led_frame}
use Rattle.copying_gc.proofs.redirect.follow_frames.Given as goal

abbrev pub invariant-loop-frame : goal.invariant-loop-frame
invariant-loop-frame l = frames_of l.frames ≡ map (led_frame (followed_ref l.heap.chunks)) (take l.frame (frames_of l.fn.frames)) ++ drop l.frame (frames_of l.fn.frames)
