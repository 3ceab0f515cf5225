use Rattle.log_command.proofs.Common.{ap, position_at, position_end, is_zero}
use Rattle.log_command.proofs.read.zero_place.Goals as goal

pub returns-then-byte-eq0 : goal.returns-then-byte-eq0
returns-then-byte-eq0 c = position_at is_zero c.args.file.now c.loop-i.i 0 c.loop-i-test.true c.loop-i.invariant (ap is_zero c.if-byte-eq0.true)

pub returns : goal.returns
returns c = position_end is_zero c.args.file.now c.loop-i.i 0 c.loop-i-test.false c.loop-i.invariant
