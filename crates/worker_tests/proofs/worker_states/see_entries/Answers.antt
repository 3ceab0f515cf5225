use Rattle.worker_run.specs.below.turn_lock.{identity}
use Rattle.worker_tests.proofs.worker_states.see_entries.Goals as goal

pub looks-requires-clause-first : goal.looks-requires-clause-first
looks-requires-clause-first g c = (c.in-Some.ensures (identity c.args.turn.now) c.args.program.now c.requires.0 c.requires.1).0

pub looks-requires-clause-second : goal.looks-requires-clause-second
looks-requires-clause-second g c = (c.in-Some.ensures (identity c.args.turn.now) c.args.program.now c.requires.0 c.requires.1).1
