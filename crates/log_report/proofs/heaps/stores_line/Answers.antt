use Rattle.log_report.proofs.Common.{◌∙◌, append_assoc, IfOk-weaker}
use Rattle.log_report.proofs.heaps.stores_line.Goals as goal

pub returns : goal.returns
returns c = IfOk-weaker c.format.result _ _ (λ s e. e ∙ simp append_assoc) c.format.ensures.ok
