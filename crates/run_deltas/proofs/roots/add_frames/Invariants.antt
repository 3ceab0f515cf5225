use Rattle.run_deltas.proofs.Common.{◌≡◌, take, registers, with_roots}
use Rattle.run_deltas.proofs.roots.add_frames.Given as goal

abbrev pub invariant-loop-frame : goal.invariant-loop-frame
invariant-loop-frame l = l.found ≡ with_roots l.initial.found (registers (take l.frame-index l.frames))
