use Rattle.race_report.proofs.Common.{◌∙◌, append_assoc, IfOk-weaker}
use Rattle.race_report.proofs.text.race_text.Goals as goal

pub returns : goal.returns
returns c = IfOk-weaker c.format.result _ _ (λ s e. e ∙ rw c.in_ok-field.ensures (simp append_assoc)) c.format.ensures.ok
