use Rattle.fork_graph.proofs.Common.{◌≡◌, ap, sym, rules, slice_get, None, meet_children}
use Rattle.fork_graph.proofs.SpawnSearch.{no_row}
use Rattle.fork_graph.proofs.reached.SpawnSearch.follow.Goals as goal

pub returns-in-None : goal.returns-in-None
returns-in-None c =
    let none : slice_get c.args.tasks.now c.args.task ≡ None = search rules in
    ap (meet_children c.args.self.now) (sym (no_row c.args.tasks.now c.args.task none))
