use Rattle.run_timeline.proofs.Common.{◌≡◌, ◌++◌, flat_map, further, lanes}
use Rattle.run_timeline.proofs.timeline.add_lanes.Given as goal

abbrev pub invariant-loop-worker : goal.invariant-loop-worker
invariant-loop-worker l = l.writer.text.items ≡ l.fn.writer.text.items ++ flat_map further (lanes l.worker)
