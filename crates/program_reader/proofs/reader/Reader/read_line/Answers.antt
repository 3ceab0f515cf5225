use Rattle.program_reader.proofs.Common.{None, Some, sym, ◌∙◌, words_of, spot_in}
use Rattle.program_reader.proofs.Causes.{gives_not_utf8, gives_fault}
use Rattle.program_reader.proofs.reader.Reader.read_line.Goals as goal

pub returns-then-not-is_text-clause-fault : goal.returns-then-not-is_text-clause-fault
returns-then-not-is_text-clause-fault c = gives_not_utf8 c.args.outline.now (spot_in c.args.outline.now c.args.self.now c.args.last) c.args.line.now (sym c.is_text.ensures ∙ c.if-not-is_text.true)

pub returns-in-Some-clause-fault : goal.returns-in-Some-clause-fault
returns-in-Some-clause-fault c =
    gives_fault c.args.outline.now (spot_in c.args.outline.now c.args.self.now c.args.last) c.args.line.now (Some c.in-Some.cause) c.split_line-head.result.0 (words_of c.split_line-head.result.1.now) c.read_operands-sense.result
    (sym c.is_text.ensures ∙ c.if-not-is_text.false) c.split_line-head.ensures.head c.split_line-head.ensures.operands c.read_operands-sense.ensures (sym c.in-Some.is ∙ c.fault.ensures)

pub returns-in_ok-take_line-in-None-clause-fault : goal.returns-in_ok-take_line-in-None-clause-fault
returns-in_ok-take_line-in-None-clause-fault c =
    gives_fault c.args.outline.now (spot_in c.args.outline.now c.args.self.now c.args.last) c.args.line.now None c.split_line-head.result.0 (words_of c.split_line-head.result.1.now) c.read_operands-sense.result
    (sym c.is_text.ensures ∙ c.if-not-is_text.false) c.split_line-head.ensures.head c.split_line-head.ensures.operands c.read_operands-sense.ensures (sym c.in-None.is ∙ c.fault.ensures)
