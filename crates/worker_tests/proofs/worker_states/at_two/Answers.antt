use Rattle.worker_run.specs.below.turn_lock.{identity}
use Rattle.worker_tests.proofs.worker_states.at_two.Goals as goal

pub leave_all-requires-clause-first : goal.leave_all-requires-clause-first
leave_all-requires-clause-first g c = (c.in-Some.ensures (identity c.args.turn.now) c.args.program.now c.args.settings c.requires).0

pub leave_all-requires-clause-second : goal.leave_all-requires-clause-second
leave_all-requires-clause-second g c = (c.in-Some.ensures (identity c.args.turn.now) c.args.program.now c.args.settings c.requires).1
