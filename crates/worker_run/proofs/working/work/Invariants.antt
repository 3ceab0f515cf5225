use Rattle.worker_run.proofs.Common.{◌≡◌, view, identity, Idle, Stop, GoesWith, HasStopped, IsWorkerState, SameWorkerState, GoesRound}
use Rattle.worker_run.proofs.working.work.Given as goal

abbrev pub invariant-loop : goal.invariant-loop
invariant-loop g l = record {
  worker_state : IsWorkerState (identity l.shop.turn.now) l.shop.program.now l.worker_state;
  same : SameWorkerState l.fn.worker_state l.worker_state;
  goes : GoesWith l.shop.program.now l.worker_state.worker (view l.worker_state.seat).part l.next;
  stops : l.next ≡ Stop → HasStopped g.P.EntryCalls.value l.worker_state;
  rounds : GoesRound g.P.EntryCalls.value l.shop.program.now l.fn.worker_state Idle l.worker_state l.next;
}
