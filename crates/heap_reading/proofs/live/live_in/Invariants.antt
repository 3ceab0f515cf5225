use Rattle.heap_reading.proofs.Common.{◌<◌, AreAll, IsLiveIn, LiveBefore}
use Rattle.heap_reading.proofs.live.live_in.Given as goal

abbrev pub invariant-loop-number : goal.invariant-loop-number
invariant-loop-number l = AreAll LiveBefore (λ x. IsLiveIn l.tree x × (x.number < l.number)) l.tasks
