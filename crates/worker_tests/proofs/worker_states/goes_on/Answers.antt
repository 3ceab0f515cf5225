use Rattle.worker_tests.proofs.Beside.{comes_still}
use Rattle.worker_tests.proofs.worker_states.goes_on.Goals as goal

pub take_turn-requires-clause-comes : goal.take_turn-requires-clause-comes
take_turn-requires-clause-comes g c = comes_still c.args.shop.now.program.now c.args.worker_state.now c.makes_ready.new.worker_state c.in-Some.ready c.makes_ready.ensures.hand c.in-Some.ensures.comes
