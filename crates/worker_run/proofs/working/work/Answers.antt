use Rattle.worker_run.proofs.Common.{arith, rules, subst, sym, Idle, HasStopped}
use Rattle.worker_run.proofs.Rounding.{one_more, stops_then}
use Rattle.worker_run.proofs.working.work.Goals as goal

pub prepare-requires-clause-few : goal.prepare-requires-clause-few
prepare-requires-clause-few g c κs within = let d = c.loop.invariant.worker_state in let a = d.thieves in let b = d.few in omega (arith, a, b)

pub loop-preserved : goal.loop-preserved
loop-preserved g c = record {
  worker_state = search rules;
  same = search rules;
  goes = search rules;
  stops = stops_then g.P.EntryCalls.value c.prepare.new.worker_state c.take_turn-next.new.worker_state c.in-Some-prepare.ready c.take_turn-next.result c.take_turn-next.ensures.turn;
  rounds = one_more g.P.EntryCalls.value c.args.shop.now.program.now c.args.worker_state.now Idle c.loop.worker_state c.loop.next c.take_turn-next.new.worker_state c.take_turn-next.result c.loop.invariant.rounds
      (record { ready = c.in-Some-prepare.ready; between = c.prepare.new.worker_state; changes = c.prepare.ensures.hand; prepares = c.in-Some-prepare.ensures.tasks; turn = c.take_turn-next.ensures.turn });
}

pub returns-in_default-clause-over : goal.returns-in_default-clause-over
returns-in_default-clause-over g c = subst (HasStopped g.P.EntryCalls.value) (sym c.in_default.ensures.stops.1) (c.loop.invariant.stops c.in_default.ensures.stops.0)
