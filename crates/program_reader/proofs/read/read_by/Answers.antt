use Rattle.program_reader.proofs.Common.{◌∙◌, IfOk-weaker}
use Rattle.program_reader.proofs.Endings.{read_as}
use Rattle.program_reader.proofs.read.read_by.Goals as goal

pub returns : goal.returns
returns c = IfOk-weaker c.reading_by.result _ _ (λ r h. h ∙ read_as c.args.outline.now c.args.text.now c.in_ok-fault.fault c.read_lines.new.reader.done c.requires.outline c.in_ok-fault.ensures.fault c.in_ok-fault.ensures.functions) c.reading_by.ensures
