use Rattle.run_span.proofs.Common.{◌≡◌, ◌-◌, List, ap, sym, rules, slice_get, None, GraphTurn, no_row}
use Rattle.run_span.proofs.reach.turn_before.Goals as goal

pub returns-in-None : goal.returns-in-None
returns-in-None c =
    let none : slice_get c.args.tasks.now c.args.strand.task ≡ None = search rules in
    ap (λ (turns : List GraphTurn). slice_get turns (c.args.strand.index - 1)) (sym (no_row c.args.tasks.now c.args.strand.task none))
