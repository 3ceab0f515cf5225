use Rattle.log_lines.proofs.Common.{ap, position_at, position_end, is_space}
use Rattle.log_lines.proofs.words.word_end.Goals as goal

pub returns-then-byte-eq32-clause-end : goal.returns-then-byte-eq32-clause-end
returns-then-byte-eq32-clause-end c = position_at is_space c.args.text.now c.loop-i.i 0 c.loop-i-test.true c.loop-i.invariant (ap is_space c.if-byte-eq32.true)

pub returns-clause-end : goal.returns-clause-end
returns-clause-end c = position_end is_space c.args.text.now c.loop-i.i 0 c.loop-i-test.false c.loop-i.invariant
