use Rattle.log_heaps.proofs.Common.{◌∙◌, ap, on_ok_weaker, foreign}
use Rattle.log_heaps.proofs.Naming.{shared_told}
use Rattle.log_heaps.proofs.tally.share.Goals as goal

pub returns : goal.returns
returns c =
    let alien = foreign c.args.walk.now.order c.args.births.now c.args.place in
    on_ok_weaker c.note-3.result
    (shared_told alien c.args.act c.args.shared.now c.note.new.self c.note-2.new.self c.note-3.new.self c.foreign.result c.foreign-2.result c.foreign-3.result (c.foreign.ensures ∙ ap alien c.used.ensures) (c.foreign-2.ensures ∙ ap alien c.referred.ensures)
    (c.foreign-3.ensures ∙ ap alien c.released.ensures) c.in_ok-note.ensures c.in_ok-note-2.ensures)
    c.note-3.ensures
