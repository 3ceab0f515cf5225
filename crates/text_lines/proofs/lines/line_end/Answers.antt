use Rattle.text_lines.proofs.Common.{ap, ◌==◌}
use Rattle.text_lines.proofs.Runs.{position_at, position_end}
use Rattle.text_lines.proofs.lines.line_end.Goals as goal

pub returns-then-byte-eq10-clause-end : goal.returns-then-byte-eq10-clause-end
returns-then-byte-eq10-clause-end c = position_at (λ b. b == 10) c.args.text.now c.loop-i.i 0 c.loop-i-test.true c.loop-i.invariant (ap (λ b. b == 10) c.if-byte-eq10.true)

pub returns-clause-end : goal.returns-clause-end
returns-clause-end c = position_end (λ b. b == 10) c.args.text.now c.loop-i.i 0 c.loop-i-test.false c.loop-i.invariant
