use Rattle.log_json.proofs.Common.{◌∙◌, IfOk-weaker, name_of}
use Rattle.log_json.proofs.Texts.{report_is}
use Rattle.log_json.proofs.report.report_json.Goals as goal

pub returns : goal.returns
returns c = IfOk-weaker c.report_text.result _ _ (λ text e. e ∙ report_is (name_of c.args.names.now) c.args.detail c.args.report.now) c.report_text.ensures
