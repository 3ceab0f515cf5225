use Rattle.fault_lines.proofs.Common.{◌∙◌, IfOk-weaker}
use Rattle.fault_lines.proofs.Values.{array_is}
use Rattle.fault_lines.proofs.json.faults_json.Goals as goal

pub returns : goal.returns
returns c = IfOk-weaker c.array_text.result _ _ (λ text e. e ∙ array_is c.args.faults.now) c.array_text.ensures
