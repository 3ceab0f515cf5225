use Rattle.log_refusals.proofs.Common.{◌∙◌, map, string_bytes, Global, IfOk-weaker}
use Rattle.log_refusals.proofs.Parts.{place_is}
use Rattle.log_refusals.proofs.texts.line_text.Goals as goal

pub returns : goal.returns
returns c = IfOk-weaker c.format.result _ _ (λ s e. e ∙ place_is (map (string_bytes {Z = Global}) c.args.names.now) c.args.at _ c.name_of-name.ensures) c.format.ensures.ok
