use Rattle.worker_tests.proofs.worker_states.looks.Goals as goal

pub returns-clause-first : goal.returns-clause-first
returns-clause-first g c = c.looked-3.ensures.worker_state c.args.program.now c.goes_on.ensures.worker_state

pub returns-clause-second : goal.returns-clause-second
returns-clause-second g c = c.looked-4.ensures.worker_state c.args.program.now c.goes_on.ensures.other
