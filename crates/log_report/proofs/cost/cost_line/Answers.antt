use Rattle.log_report.proofs.Common.{◌∙◌, IfOk-weaker, hundredths, hundredths_text}
use Rattle.log_report.proofs.Parts.{cost_is}
use Rattle.log_report.proofs.cost.cost_line.Goals as goal

pub returns : goal.returns
returns c =
    let same = hundredths_text (hundredths c.args.work c.args.span) in
    IfOk-weaker c.format.result _ _ (λ s e. e ∙ cost_is c.args.work c.args.span _ same c.in_ok-quotient.ensures) c.format.ensures.ok
