use Rattle.run_report.proofs.Common.{◌≡◌, take, output_lines}
use Rattle.run_report.proofs.texts.outputs_text.Given as goal

abbrev pub invariant-loop-output : goal.invariant-loop-output
invariant-loop-output l = l.text.items ≡ output_lines (take l.output-index l.outputs)
