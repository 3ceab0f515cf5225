use Rattle.log_report.proofs.Common.{◌∙◌, on_ok_weaker}
use Rattle.log_report.proofs.Parts.{three}
use Rattle.log_report.proofs.report.add_ends.Goals as goal

pub returns : goal.returns
returns c =
    on_ok_weaker c.add-2.result
    (λ e. three c.args.text.now.items _ _ _ _ _ _ _ _ c.in_ok-add.ensures c.in_ok-add_heaps.ensures e (c.as_str.ensures.value ∙ c.in_ok-cost.ensures) (c.as_str-2.ensures.value ∙ c.in_ok-end.ensures))
    c.add-2.ensures
