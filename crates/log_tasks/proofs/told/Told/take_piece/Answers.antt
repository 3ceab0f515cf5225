use Rattle.log_tasks.proofs.Common.{list_any, spawns, acts_in, ℕ}
use Rattle.log_tasks.proofs.Known.{piece_taken}
use Rattle.log_tasks.proofs.Noted.{notes_tasks, notes_more}
use Rattle.log_tasks.proofs.told.Told.take_piece.Goals as goal

pub note_if-requires : goal.note_if-requires
note_if-requires c =
    notes_more c.args.self.now c.take_lines.new.self (λ (t : ℕ). list_any (spawns t) (acts_in c.args.text.now)) c.in_ok-ends.ensures.tops c.in_ok-ends.ensures.tasks
    (notes_tasks c.args.self.now c.requires.0 c.requires.1)

pub returns : goal.returns
returns c =
    piece_taken c.note_if.result c.args.self.now c.take_lines.new.self c.note_if.new.self c.args.strand (acts_in c.args.text.now) c.is_told_if-told.result c.is_told_if-told.ensures
    c.in_ok-ends.ensures.ends c.in_ok-ends.ensures.tasks c.in_ok-ends.ensures.tops c.note_if.ensures.tops c.note_if.ensures.tasks c.note_if.ensures.ends
