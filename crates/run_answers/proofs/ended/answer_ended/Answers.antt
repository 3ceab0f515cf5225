use Rattle.run_answers.proofs.Common.{◌∙◌, ap, refl, Some, whole_text, SharedValue, accounts, totals_of}
use Rattle.command_answers.proofs.Runs.{ended_run}
use Rattle.run_answers.proofs.ended.answer_ended.Goals as goal

pub returns-in-Ok-clause-answer : goal.returns-in-Ok-clause-answer
returns-in-Ok-clause-answer c =
    let w : SharedValue = c.args.shared in
    ended_run w c.args.end c.args.extras _ c.stands.ensures c.requires c.of_end.ensures
    (c.from_vec.ensures
    ∙ (c.in-Ok.ensures ∙ whole_text w.program w.settings w.journal.items c.args.extras.report c.args.extras.trace w.settings.version (accounts w) (totals_of w) c.args.end refl refl refl c.requires))
    c.take_journal-journal.ensures.journal (ap Some c.take_journal-journal.ensures.rest)
