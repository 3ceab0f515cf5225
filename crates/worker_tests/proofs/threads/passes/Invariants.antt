use Rattle.worker_run.specs.below.turn_lock.{HasNoTurn, identity}
use Rattle.worker_tests.proofs.threads.passes.Given as goal

abbrev pub invariant-loop : goal.invariant-loop
invariant-loop g l = HasNoTurn (identity l.turn) l.worker_state.seat
