use Rattle.text_lines.proofs.Common.{sym, ◌∙◌, is_blank}
use Rattle.text_lines.proofs.Runs.{position_at, position_end}
use Rattle.text_lines.proofs.words.run_end.Goals as goal

pub returns-then-is_blank_byte-clause-end : goal.returns-then-is_blank_byte-clause-end
returns-then-is_blank_byte-clause-end c = position_at is_blank c.args.line.now c.loop-i.i 0 c.loop-i-test.true c.loop-i.invariant (sym c.is_blank_byte.ensures ∙ c.if-is_blank_byte.true)

pub returns-clause-end : goal.returns-clause-end
returns-clause-end c = position_end is_blank c.args.line.now c.loop-i.i 0 c.loop-i-test.false c.loop-i.invariant
