use Rattle.log_races.proofs.Common.{◌≡◌, true, ◌<◌, ◌++◌, ◌∙◌, List, length, take, get_or, sym, ap, subst, GraphStrand, WalkValue, events_of_pieces, HasScanned, Touch, run_order, own_before, told_strand, touches_from, touches_told}
use Rattle.log_races.proofs.Parts.{told_more}
use Rattle.log_races.proofs.strands.scan_walk.Goals as goal

pub loop-serial-init : goal.loop-serial-init
loop-serial-init c = record {
  size = (c.in_ok-scan.ensures (run_order c.args.walk.now)).size;
  seen = c.in_ok-scan.ensures (run_order c.args.walk.now);
}

pub loop-serial-preserved : goal.loop-serial-preserved
loop-serial-preserved c =
    let events = events_of_pieces c.args.pieces.now.texts c.args.pieces.now.pieces in
    let log = c.args.tasks.now in
    let order = c.args.walk.now.order in
    let serial = c.loop-serial.serial in
    let past = touches_from events log 0 (take serial order) in
    let w = c.new-order.ensures.value in
    let d : GraphStrand = record { task = 0; index = 0 } in
    let items = c.order-strand-items.ensures.order in
    let lt : serial < length order = subst (λ (l : List GraphStrand). serial < length l) items c.loop-serial-test.true in
    let old = subst (λ (v : WalkValue). HasScanned (run_order v) c.args.numbers.now past c.loop-serial.scan) (sym w) c.loop-serial.invariant.seen in
    let new = subst (λ (v : WalkValue). HasScanned (run_order v) c.args.numbers.now (past ++ touches_told events c.told_strand-told.result serial) c.scan_strand.new.scan) w
    (c.in_ok-scan_strand.ensures.ok past old) in
    record {
      size = c.in_ok-scan_strand.ensures.size ∙ c.loop-serial.invariant.size;
      seen = subst (λ (ts : List Touch). HasScanned (run_order c.args.walk.now) c.args.numbers.now ts c.scan_strand.new.scan)
          (told_more events log order serial d c.told_strand-told.result lt (c.told_strand-told.ensures ∙ ap (λ (l : List GraphStrand). told_strand log (get_or l serial d)) items)) new;
    }

pub scan_strand-requires-clause-known : goal.scan_strand-requires-clause-known
scan_strand-requires-clause-known c =
    let items = c.order-strand-items.ensures.order in
    let lt : c.loop-serial.serial < length c.args.walk.now.order = subst (λ (l : List GraphStrand). c.loop-serial.serial < length l) items c.loop-serial-test.true in
    subst (λ (v : WalkValue). (run_order v).before c.loop-serial.serial c.loop-serial.serial ≡ true) (sym c.new-order.ensures.value)
    (own_before c.args.walk.now c.new-order.ensures.walked c.loop-serial.serial lt)
