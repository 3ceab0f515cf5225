use Rattle.std.proofs.Common.{◌≡◌, ◌++◌, List}
use Rattle.turn_lock.proofs.SeatLists.{joined_all}
use Rattle.turn_lock.proofs.turn.Turn.close.Given as goal

abbrev pub invariant-loop-other : goal.invariant-loop-other
invariant-loop-other g l = (done : List _) × (l.initial.seats.items ≡ l.seats.items ++ done) × (l.first.table_id ≡ l.initial.first.table_id) × (l.first.me ≡ (joined_all l.initial.first.me.0 done, l.initial.first.me.1))

abbrev pub decreases-loop-other : goal.decreases-loop-other
decreases-loop-other g l = goal.left-loop-other g l
