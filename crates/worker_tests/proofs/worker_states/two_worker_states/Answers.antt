use Rattle.std.proofs.Common.{rules, ◌<◌, length}
use Rattle.worker_tests.proofs.Beside.{first_worker_state, second_worker_state}
use Rattle.worker_tests.proofs.worker_states.two_worker_states.Goals as goal

pub returns : goal.returns
returns c = λ z p s all.
    let some : 0 < length c.args.worker_states.items = search rules in
    let more : 0 < length c.remove-first.new.self.items = search rules in (
      first_worker_state z p s c.args.worker_states.items c.remove-first.result all some c.remove-first.ensures.value,
      second_worker_state z p s c.args.worker_states.items c.remove-first.result all some c.remove-first.ensures.value c.remove-first.new.self.items c.remove-second.result c.remove-first.ensures.items more c.remove-second.ensures.value,
    )
