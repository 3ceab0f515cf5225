use Rattle.std.proofs.Common.{◌≡◌, ◌≤◌, ◌-◌, length, take}
use Rattle.io_traits.specs.Told.{with_more}
use Rattle.read_write_all.proofs.write.write_all.Given as goal

abbrev pub invariant-loop-at : goal.invariant-loop-at
invariant-loop-at g l = (g.K.Sink.written l.sink ≡ with_more (g.K.Sink.written l.fn.sink) (take l.at l.bytes)) × (g.K.Sink.faults l.fn.sink ≤ g.K.Sink.faults l.sink) × (l.at ≤ length l.bytes)

abbrev pub decreases-loop-at : goal.decreases-loop-at
decreases-loop-at g l = length l.bytes - l.at
