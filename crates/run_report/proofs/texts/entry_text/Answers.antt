use Rattle.run_report.proofs.Common.{◌∙◌, IfOk-weaker}
use Rattle.run_report.proofs.Lines.{refused_is}
use Rattle.run_report.proofs.texts.entry_text.Goals as goal

pub returns : goal.returns
returns c =
    IfOk-weaker c.format.result _ _
    (λ s e. e ∙ refused_is c.args.refused _ c.requires c.in_ok-cause.ensures) c.format.ensures.ok
