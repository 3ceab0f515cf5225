use Rattle.command_core.proofs.Common.{◌∙◌, sym, subst, IfErr-weaker, IfOk-weaker, AnswersMake, LeavesMake, IsWanted, made_left, made_run, text_made}
use Rattle.command_core.proofs.answers.answer_make.Goals as goal

pub returns-then-run-clause-answer : goal.returns-then-run-clause-answer
returns-then-run-clause-answer g c =
    IfOk-weaker c.answer_run.result _ (AnswersMake c.args.seed c.args.size c.args.run)
    (λ a h. made_run c.args.seed c.args.size c.args.run c.usual.result c.as_slice.result.now a c.requires.some c.requires.at_most c.if-run.true c.usual.ensures (c.as_slice.ensures.value ∙ c.in_ok-text.ensures) h)
    c.answer_run.ensures.answer

pub returns-clause-answer : goal.returns-clause-answer
returns-clause-answer g c =
    subst (λ b. AnswersMake c.args.seed c.args.size b c.bytes_alone.result) (sym c.if-run.false)
    (text_made c.args.seed c.args.size c.from_vec.result c.bytes_alone.result (c.from_vec.ensures ∙ c.in_ok-text.ensures) c.bytes_alone.ensures)

pub returns-then-run-clause-wanted : goal.returns-then-run-clause-wanted
returns-then-run-clause-wanted g c =
    IfErr-weaker c.answer_run.result _ (IsWanted (LeavesMake c.args.seed c.args.size c.args.run))
    (λ w h. made_left c.args.seed c.args.size c.args.run c.usual.result c.as_slice.result.now w c.requires.some c.requires.at_most c.if-run.true c.usual.ensures (c.as_slice.ensures.value ∙ c.in_ok-text.ensures) h)
    c.answer_run.ensures.wanted
