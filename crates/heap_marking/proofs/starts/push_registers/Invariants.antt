use Rattle.heap_marking.proofs.Common.{◌≡◌, ◌++◌, take, flat_map, frames_of, into, frame_references}
use Rattle.heap_marking.proofs.starts.push_registers.Given as goal

abbrev pub invariant-loop-frame : goal.invariant-loop-frame
invariant-loop-frame l = l.starts.items ≡ l.fn.starts.items ++ flat_map (into l.heap.chunks) (frame_references (take l.frame (frames_of l.frames)))
