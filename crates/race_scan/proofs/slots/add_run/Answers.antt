use Rattle.race_scan.proofs.Common.{◌≡◌, ◌+◌, ◌<◌, ◌≤◌, List, sym, subst, arith, LocationSlot, run_start, AreUpto}
use Rattle.race_scan.proofs.Slotting.{slot_added, slot_rises, slot_upto}
use Rattle.race_scan.proofs.slots.add_run.Goals as goal

pub loop-at-preserved : goal.loop-at-preserved
loop-at-preserved c =
    let v = c.args.numbers.now in
    let r = c.args.region in
    let begin : c.run_start-at.result ≡ run_start r c.args.run = c.run_start-at.ensures.value in
    let below : c.loop-at.at < run_start r c.args.run + r.length = omega (arith, c.loop-at-test.true) in
    let from : run_start r c.args.run ≤ c.loop-at.at = c.loop-at.invariant.from in
    let rises : c.loop-at.at < c.slot_at-slot.result.end =
    slot_rises v r c.requires.cut c.args.run c.loop-at.at c.loop-at.slots.items c.slot_at-slot.result c.requires.run from below c.slot_at-slot.ensures c.loop-at.invariant.slots in
    let upto : c.slot_at-slot.result.end ≤ run_start r c.args.run + r.length =
    slot_upto v r c.requires.cut c.args.run c.loop-at.at c.loop-at.slots.items c.slot_at-slot.result c.requires.run from below c.slot_at-slot.ensures c.loop-at.invariant.slots in
    record {
      from = omega arith;
      upto = omega arith;
      slots = subst (λ (l : List LocationSlot). AreUpto v r c.slot_at-slot.result.end l) (sym c.in_ok-push.ensures)
          (slot_added v r c.requires.cut c.args.run c.loop-at.at c.loop-at.slots.items c.slot_at-slot.result c.requires.run from below c.slot_at-slot.ensures c.loop-at.invariant.slots);
    }
