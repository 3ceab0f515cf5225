use Rattle.worker_run.specs.below.turn_lock.{view, identity}
use Rattle.worker_run.specs.WorkerStates.{IsWorkerState}
use Rattle.worker_run.specs.below.turn_entries.{GoesWith}
use Rattle.worker_tests.proofs.worker_states.drive.Given as goal

abbrev pub invariant-loop-entry : goal.invariant-loop-entry
invariant-loop-entry g l =
    IsWorkerState (identity l.shop.turn.now) l.shop.program.now l.first × IsWorkerState (identity l.shop.turn.now) l.shop.program.now l.second × GoesWith l.shop.program.now l.first.worker (view l.first.seat).part l.to_first
    × GoesWith l.shop.program.now l.second.worker (view l.second.seat).part l.to_second
