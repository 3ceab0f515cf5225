use Rattle.log_races.proofs.Common.{◌<◌, List, length, sym, subst, arith, all_from, Event, events_of, events_of_pieces, LogPiecesValue, regions_of_events, AreMarked, HasScanned, Touch, AreInSerialOrder, run_order, verdicts_of, touches_of}
use Rattle.log_races.proofs.Serial.{within, sorted}
use Rattle.log_races.proofs.races.log_races.Goals as goal

pub scan_walk-requires-clause-marked : goal.scan_walk-requires-clause-marked
scan_walk-requires-clause-marked c =
    subst (λ (p : LogPiecesValue). AreMarked (regions_of_events (events_of_pieces p.texts p.pieces)) c.in_ok-numbers.numbers) (sym c.in_ok-pieces.ensures) c.in_ok-numbers.ensures.marked

pub returns-clause-races : goal.returns-clause-races
returns-clause-races c =
    let events = events_of c.args.texts.now in
    let log = c.args.tasks.now in
    let walk = c.args.walk.now in
    let touches = touches_of events log walk.order in
    let scan = c.in_ok-scan.scan in
    let v = c.in_ok-numbers.numbers in
    let seen = subst (λ (p : LogPiecesValue). HasScanned (run_order walk) v (touches_of (events_of_pieces p.texts p.pieces) log walk.order) scan) c.in_ok-pieces.ensures c.in_ok-scan.ensures in
    let seen_all : HasScanned (run_order walk) v touches scan = subst (λ (es : List Event). HasScanned (run_order walk) v (touches_of es log walk.order) scan) c.requires seen in
    let serial : AreInSerialOrder walk touches = record {
      known = all_from (λ (t : Touch). t.access.strand < length walk.order) touches (λ t i. let w = (within events log 0 walk.order t i).1 in omega (arith, w));
      serial = sorted events log 0 walk.order;
    } in
    verdicts_of walk c.order-strands.ensures.walked v touches scan serial seen_all
