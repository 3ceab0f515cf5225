use Rattle.race_groups.proofs.Common.{◌∙◌, append_assoc, IfOk-weaker}
use Rattle.race_groups.proofs.text.field_text.Goals as goal

pub returns : goal.returns
returns c = IfOk-weaker c.format.result _ _ (λ s e. e ∙ rw c.kind_word-kind.ensures (simp append_assoc)) c.format.ensures.ok
