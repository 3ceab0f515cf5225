use Rattle.run_answers.proofs.Common.{subst, IfOk, IfErr-weaker, IfOk-weaker, Extras, AnswersReplayed}
use Rattle.run_answers.proofs.Replayed.{replayed_left, replayed_told}
use Rattle.run_answers.proofs.replay.answer_trace.Goals as goal

pub returns-clause-answer : goal.returns-clause-answer
returns-clause-answer c =
    IfOk-weaker c.answer_replayed.result _ _
    (λ a h. replayed_told c.args.options c.args.read.now c.with_version-settings.result c.as_slice.result.now c.in_ok-replayed.replayed a c.with_version-settings.ensures c.as_slice.ensures
    c.in_ok-replayed.ensures h)
    (subst (λ (x : Extras). IfOk c.answer_replayed.result (AnswersReplayed x c.in_ok-replayed.replayed)) c.extras_of.ensures c.answer_replayed.ensures.answer)

pub returns-clause-wanted : goal.returns-clause-wanted
returns-clause-wanted c =
    IfErr-weaker c.answer_replayed.result _ _
    (λ found e. replayed_left c.args.options c.args.read.now c.with_version-settings.result c.as_slice.result.now c.in_ok-replayed.replayed found c.with_version-settings.ensures c.as_slice.ensures
    c.in_ok-replayed.ensures c.answer_replayed.ensures.stands e) c.answer_replayed.ensures.wanted
