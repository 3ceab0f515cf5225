use Rattle.std.proofs.Common.{rules, ◌<◌, length}
use Rattle.worker_run.proofs.Finding.{root_put}
use Rattle.worker_run.proofs.workers.new_hands.Goals as goal

pub returns-in-Ok : goal.returns-in-Ok
returns-in-Ok c =
    let some : 0 < length c.in_ok-hands.hands.items = search rules in
    root_put c.args.workers c.in_ok-hands.hands.items c.index_mut.result.now c.put.new.self some c.index_mut.ensures.value
    (record { same = c.put.ensures.same; put = c.in-Ok.ensures.ok; counted = c.put.ensures.counted; thieves = c.put.ensures.thefts }) c.in_ok-hands.ensures
