use Rattle.copying_gc.proofs.Common.{◌≡◌, take, fold, All, frames_of, frame_references, visited_reference, IsTarget}
use Rattle.copying_gc.proofs.collector.Collector.visit_frames.Given as goal

abbrev pub invariant-loop-frame : goal.invariant-loop-frame
invariant-loop-frame l = record {
  visited : l.self ≡ fold visited_reference l.fn.self (frame_references (take l.frame (frames_of l.frames)));
  targets : All (IsTarget l.self.heap.chunks) (frame_references (frames_of l.frames));
}
