use Rattle.log_heaps.proofs.DepthRows.{rows_more, sums_there}
use Rattle.log_heaps.proofs.rows.rows_of.Goals as goal

pub loop-depth-preserved : goal.loop-depth-preserved
loop-depth-preserved c = λ births own has.
    rows_more births own c.loop-depth.depth _ c.loop-depth.rows c.add_row.new.rows (sums_there births own c.args.sums.now c.loop-depth.depth _ c.loop-depth-test.true has) c.in_ok-add_row.ensures (c.loop-depth.invariant births own has)
