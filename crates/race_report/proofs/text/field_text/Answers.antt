use Rattle.race_report.proofs.Common.{◌∙◌, refl, IfOk-weaker}
use Rattle.race_report.proofs.text.field_text.Goals as goal

pub returns : goal.returns
returns c = IfOk-weaker c.format.result _ _ (λ s e. e ∙ rw c.kind-word.ensures refl) c.format.ensures.ok
