use Rattle.run_report.proofs.Common.{◌∙◌, append_assoc, on_ok_weaker}
use Rattle.run_report.proofs.texts.add_chunks.Goals as goal

pub returns : goal.returns
returns c = on_ok_weaker c.write.result (λ e. e ∙ simp append_assoc) c.write.ensures.bytes
