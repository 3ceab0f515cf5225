use Rattle.heap_image.proofs.Common.{◌∙◌, append_assoc, IfOk-weaker}
use Rattle.heap_image.proofs.text.field_text.Goals as goal

pub returns : goal.returns
returns c = IfOk-weaker c.format.result _ _ (λ s e. e ∙ simp append_assoc) c.format.ensures.ok
