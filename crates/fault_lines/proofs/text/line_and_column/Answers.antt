use Rattle.fault_lines.proofs.Common.{◌∙◌, append_assoc, IfOk-weaker}
use Rattle.fault_lines.proofs.text.line_and_column.Goals as goal

pub returns : goal.returns
returns c = IfOk-weaker c.format.result _ _ (λ s e. e ∙ simp append_assoc) c.format.ensures.ok
