use Rattle.std.proofs.Common.{arith}
use Rattle.read_write_all.proofs.Inputs.{written_rest}
use Rattle.read_write_all.proofs.write.write_all.Goals as goal

pub loop-at-preserved : goal.loop-at-preserved
loop-at-preserved g c = (
  written_rest (g.K.Sink.written c.args.sink.now) (g.K.Sink.written c.loop-at.sink) (g.K.Sink.written c.put.new.self) c.args.bytes.now c.loop-at.at c.in_ok-at.field-0 c.loop-at.invariant.0 c.in_ok-at.ensures.taken,
  omega (arith, c.loop-at.invariant.1, c.put.ensures.never_falls),
  grind arith,
)
