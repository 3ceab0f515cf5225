use Rattle.run_answers.proofs.Common.{List, subst, sym, IfOk-weaker, EntryValue, Entry, Refuses, short_of}
use Rattle.command_answers.proofs.Imaged.{image_ended, image_short}
use Rattle.run_answers.proofs.image.answer_made.Goals as goal

pub returns-in-None : goal.returns-in-None
returns-in-None c =
    IfOk-weaker c.trace_short.result _ _ (λ a h. image_short c.args.shared.now a c.stands.ensures (sym c.in-None.ensures)
    (subst (λ (j : List EntryValue). Refuses (Entry (short_of j)) a) c.journal.ensures h)) c.trace_short.ensures

pub returns-in-Some : goal.returns-in-Some
returns-in-Some c =
    IfOk-weaker c.answer_drawn.result _ _ (λ a h. image_ended c.args.shared.now _ h.0 a c.stands.ensures (sym c.in-Some.ensures) h.1 h.2) c.answer_drawn.ensures
