use Rattle.log_refusals.proofs.Common.{IfOk-weaker, ◌∙◌}
use Rattle.log_refusals.proofs.Parts.{line_is}
use Rattle.log_refusals.proofs.texts.line_refusal_text.Goals as goal

pub returns : goal.returns
returns c = IfOk-weaker c.format.result _ _ (λ s e. e ∙ line_is _ _ _ _ c.in_ok-place.ensures c.text_of_fault-cause.ensures) c.format.ensures.ok
