use Rattle.command_answers.proofs.Common.{rules, IfOk-weaker}
use Rattle.command_answers.proofs.ImagesTold.{image_told, image_refused}
use Rattle.command_answers.proofs.verify.answer_verify.Goals as goal

pub returns-in_ok-text-in-Ok : goal.returns-in_ok-text-in-Ok
returns-in_ok-text-in-Ok c =
    image_told c.args.input.now c.in-Ok.objects _ c.text_alone.result (search rules) (search rules) c.in_ok-text-in-Ok.ensures c.text_alone.ensures

pub returns-in-Err-Refused : goal.returns-in-Err-Refused
returns-in-Err-Refused c =
    IfOk-weaker c.refused.result _ _ (λ a h. image_refused c.args.input.now c.in-Err-Refused.fault a (search rules) h) c.refused.ensures
