use Rattle.std.proofs.Common.{◌∙◌}
use Rattle.std.proofs.lemmas.Result.{IfOk-weaker}
use Rattle.refusal_lines.proofs.Lines.{image_is}
use Rattle.refusal_lines.proofs.text.image_text.Goals as goal

pub returns : goal.returns
returns c = IfOk-weaker c.format.result _ _ (λ s e. e ∙ image_is c.args.fault _ c.text-cause.ensures) c.format.ensures.ok
