use Rattle.log_report.proofs.Common.{◌≡◌, ◌++◌, take, flat_map, depth_line}
use Rattle.log_report.proofs.heaps.add_depths.Given as goal

abbrev pub invariant-loop-row : goal.invariant-loop-row
invariant-loop-row l = l.text.items ≡ l.initial.text.items ++ flat_map depth_line (take l.row-index l.rows)
