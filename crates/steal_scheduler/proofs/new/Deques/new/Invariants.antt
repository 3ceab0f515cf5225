use Rattle.steal_scheduler.proofs.Common.{◌≡◌, length, EachPlace, IsHandOf}
use Rattle.steal_scheduler.proofs.new.Deques.new.Given as goal

abbrev pub invariant-loop-own : goal.invariant-loop-own
invariant-loop-own l = (length l.hands.items ≡ length l.yielded) × EachPlace (IsHandOf l.stealers.items) l.hands.items l.yielded
