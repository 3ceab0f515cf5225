use Rattle.std.proofs.Common.{◌≤◌, length, arith}
use Rattle.log_strands.proofs.Noted.{place_more, all_places}
use Rattle.log_strands.proofs.places.table_of.Goals as goal

pub loop-place-preserved : goal.loop-place-preserved
loop-place-preserved c =
    place_more c.args.log.now c.args.order.now c.loop-place.place _ c.loop-place.table c.take.new.self (omega (arith, c.loop-place-test.true)) c.loop-place.invariant c.in_ok-take.ensures

pub returns : goal.returns
returns c =
    let past : length c.args.order.now ≤ c.loop-place.place = omega (arith, c.loop-place-test.false) in
    all_places c.args.log.now c.args.order.now c.loop-place.place c.loop-place.table past c.loop-place.invariant
