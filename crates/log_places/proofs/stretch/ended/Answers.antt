use Rattle.std.proofs.Common.{◌+◌, ◌-◌, ◌/◌, arith}
use Rattle.log_places.proofs.Ends.{ended_more}
use Rattle.log_places.proofs.stretch.ended.Goals as goal

pub loop-low-preserved-then-stretches-middle : goal.loop-low-preserved-then-stretches-middle
loop-low-preserved-then-stretches-middle c = record {
  order = omega arith;
  within = c.loop-low.invariant.within;
  ended = ended_more c.args.stretches.now c.requires (c.loop-low.low + (c.loop-low.high - c.loop-low.low) / 2) c.args.location _ (omega arith) c.if-stretches-middle.true;
  next = c.loop-low.invariant.next;
}
