use Rattle.text_faults.proofs.Common.{◌<◌, ◌≡◌, ◌≤◌, ◌+◌, length, drop, ap, arith, eq-eqb, ne_eqb, length-drop, lines_of}
use Rattle.text_faults.proofs.AllLines.{last_added, more_added, begun_next, orders_next}
use Rattle.text_faults.proofs.text.add_all.Goals as goal

pub pass-requires-clause-sized : goal.pass-requires-clause-sized
pass-requires-clause-sized c =
    let lt : c.line_end-end.result < length c.loop-below.rest.now = omega (arith, c.line_end-end.ensures.within, c.if-last.false) in
    let len : length c.behind-below.result.now ≡ length (drop (c.line_end-end.result + 1) c.loop-below.rest.now) = ap length c.behind-below.ensures in
    grind (arith, len, lt, length-drop, c.loop-below.invariant.fits, c.requires.sized)

pub returns-then-last : goal.returns-then-last
returns-then-last c =
    last_added c.loop-below.walk c.loop-below.number c.line_end-end.result c.loop-below.rest.now c.parse-parsed.result.line.now _ c.loop-below.faults c.add_faults.new.faults _
    c.line_end-end.ensures.end c.parse-parsed.ensures.line c.in_ok-add_faults.ensures c.loop-below.invariant.value c.if-last.true (eq-eqb c.line_end-end.result (length c.loop-below.rest.now) c.if-last.true)

pub loop-below-preserved : goal.loop-below-preserved
loop-below-preserved c =
    let lt : c.line_end-end.result < length c.loop-below.rest.now = omega (arith, c.line_end-end.ensures.within, c.if-last.false) in
    let len : length c.behind-below.result.now ≡ length (drop (c.line_end-end.result + 1) c.loop-below.rest.now) = ap length c.behind-below.ensures in
    let begun = begun_next c.loop-below.walk c.pass.new.self c.loop-below.number c.parse-parsed.result.line.now (lines_of c.behind-below.result.now) c.in_ok-pass.ensures in
    let orders = orders_next c.loop-below.walk c.pass.new.self c.loop-below.number c.parse-parsed.result.line.now (lines_of c.behind-below.result.now) c.in_ok-pass.ensures in
    record {
      value =
          more_added c.loop-below.walk c.loop-below.number c.line_end-end.result c.loop-below.rest.now c.parse-parsed.result.line.now _ c.loop-below.faults c.add_faults.new.faults _
          c.line_end-end.ensures.end c.parse-parsed.ensures.line c.in_ok-add_faults.ensures c.loop-below.invariant.value
          c.pass.new.self c.behind-below.result.now c.behind-below.ensures c.in_ok-pass.ensures lt (ne_eqb c.line_end-end.result (length c.loop-below.rest.now) c.if-last.false);
      fits = grind (arith, len, lt, length-drop, c.loop-below.invariant.fits);
      begun = omega (arith, begun, c.loop-below.invariant.begun);
      orders = omega (arith, orders, c.loop-below.invariant.orders);
    }
