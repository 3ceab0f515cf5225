use Rattle.run_answers.proofs.Common.{subst, sym, IfOk, Result, SharedValue, refused_as_run, WorldValue, ReplayStop, AnswersReplayed, WhereWhole, IsReplayedRun}
use Rattle.run_answers.proofs.replay.answer_replayed.Goals as goal

pub returns-in-Ok-clause-answer : goal.returns-in-Ok-clause-answer
returns-in-Ok-clause-answer c =
    subst (λ (r : Result WorldValue (ReplayStop WorldValue)). IfOk c.answer_made.result (AnswersReplayed c.args.extras r)) (sym c.in-Ok.is)
    (subst (λ (w : SharedValue). IfOk c.answer_made.result (WhereWhole (IsReplayedRun w.program w.settings c.args.extras w.journal.items) (refused_as_run w.program w.settings w.journal.items))) c.into_shared.ensures c.answer_made.ensures.answer)
