use Rattle.run_answers.proofs.Common.{ap, sym, ◌∙◌, IfOk-weaker, SharedValue, accounts}
use Rattle.command_answers.proofs.Runs.{made_ended, made_short}
use Rattle.run_answers.proofs.replay.answer_made.Goals as goal

pub returns-in-None-clause-answer : goal.returns-in-None-clause-answer
returns-in-None-clause-answer c =
    let none = ap (λ (w : SharedValue). (accounts w).end) (sym c.shared.ensures) ∙ sym c.in-None.ensures in
    IfOk-weaker c.answer_short.result _ _ (λ a h. made_short c.args.shared c.args.extras a c.stands.ensures none h) c.answer_short.ensures.answer

pub returns-in-Some-clause-answer : goal.returns-in-Some-clause-answer
returns-in-Some-clause-answer c =
    let ended = ap (λ (w : SharedValue). (accounts w).end) (sym c.shared.ensures) ∙ sym c.in-Some.ensures in
    IfOk-weaker c.answer_ended.result _ _ (λ a h. made_ended c.args.shared c.in-Some.end c.args.extras a c.stands.ensures ended h) c.answer_ended.ensures.answer

pub answer_ended-requires : goal.answer_ended-requires
answer_ended-requires c = ap (λ (w : SharedValue). (accounts w).end) (sym c.shared.ensures) ∙ sym c.in-Some.ensures
