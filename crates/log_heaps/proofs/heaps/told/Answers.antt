use Rattle.std.proofs.Common.{refl}
use Rattle.log_heaps.proofs.TallyRows.{rows_told}
use Rattle.log_heaps.proofs.heaps.told.Goals as goal

pub returns-clause-told : goal.returns-clause-told
returns-clause-told c = record {
  depths = rows_told c.args.tally.now c.as_slice.result.now c.in_ok-sums.sums c.as_slice-2.result.now c.in_ok-depths.depths c.as_slice.ensures c.as_slice-2.ensures c.in_ok-sums.ensures.sums c.in_ok-sums.ensures.above c.in_ok-depths.ensures;
  stores = refl;
  down = refl;
}
