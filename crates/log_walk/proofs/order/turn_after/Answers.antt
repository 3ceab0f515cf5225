use Rattle.log_walk.proofs.Common.{◌≡◌, None, List, slice_get, ap, sym, rules, GraphTurn, no_row}
use Rattle.log_walk.proofs.order.turn_after.Goals as goal

pub returns-in-None : goal.returns-in-None
returns-in-None c =
    let none : slice_get c.args.tasks.now c.args.strand.task ≡ None = search rules in
    ap (λ (turns : List GraphTurn). slice_get turns c.args.strand.index) (sym (no_row c.args.tasks.now c.args.strand.task none))
