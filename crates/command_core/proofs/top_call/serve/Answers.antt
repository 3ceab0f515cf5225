use Rattle.command_core.proofs.Common.{IfOk-weaker, AnswersLine, LeavesLine, answered, found_given, found_no_read}
use Rattle.command_core.proofs.top_call.serve.Goals as goal

pub give-requires : goal.give-requires
give-requires g c = IfOk-weaker c.answer_line-found.result _ _ (λ a h. answered c.args.line.now c.args.input.now a h) c.answer_line-found.ensures.answer

pub returns-clause-answer : goal.returns-clause-answer
returns-clause-answer g c =
    found_given (AnswersLine c.args.line.now c.args.input.now) (LeavesLine c.args.line.now c.args.input.now) c.answer_line-found.result c.give.result _ _ c.answer_line-found.ensures.answer c.answer_line-found.ensures.wanted
    (IfOk-weaker c.answer_line-found.result _ _ (λ a h. answered c.args.line.now c.args.input.now a h) c.answer_line-found.ensures.answer) c.give.ensures.given

pub returns-clause-read : goal.returns-clause-read
returns-clause-read g c = found_no_read c.answer_line-found.result c.give.result _ _
    (IfOk-weaker c.answer_line-found.result _ _ (λ a h. answered c.args.line.now c.args.input.now a h) c.answer_line-found.ensures.answer) c.give.ensures.given
