use Rattle.race_scan.proofs.Common.{List, sym, subst, LocationSlot, run_start, AreUpto}
use Rattle.race_scan.proofs.Slotting.{all_done, begun, run_done}
use Rattle.race_scan.proofs.slots.slots_of.Goals as goal

pub loop-run-init : goal.loop-run-init
loop-run-init c =
    subst (λ (l : List LocationSlot). AreUpto c.args.numbers.now c.args.region (run_start c.args.region 0) l) (sym c.clear.ensures.items) (begun c.args.numbers.now c.args.region)

pub loop-run-preserved : goal.loop-run-preserved
loop-run-preserved c = run_done c.args.numbers.now c.args.region c.requires.region c.loop-run.run c.add_run.new.slots.items c.in_ok-add_run.ensures

pub returns : goal.returns
returns c = all_done c.args.numbers.now c.args.region c.loop-run.run c.loop-run-test.false c.requires.region c.loop-run.slots.items c.loop-run.invariant
