use Rattle.log_report.proofs.Common.{lines_more, depth_line}
use Rattle.log_report.proofs.heaps.add_depths.Goals as goal

pub loop-row-preserved : goal.loop-row-preserved
loop-row-preserved c =
    lines_more depth_line c.args.rows.now c.loop-row.row-index (record { depth = 0; blocks = 0; words = 0; own = 0 }) c.args.text.now.items c.loop-row.text.items c.add_depth.new.text.items
    c.loop-row-test.true c.loop-row.invariant c.in_ok-add_depth.ensures
