use Rattle.log_walk.proofs.Common.{length, tasks_in}
use Rattle.log_walk.proofs.Walking.{IsWalking, left}
use Rattle.log_walk.proofs.order.serial_order.Given as goal

abbrev pub invariant-loop-strand : goal.invariant-loop-strand
invariant-loop-strand l = IsWalking (tasks_in l.tasks) (length l.tasks) l.walk

abbrev pub decreases-loop-strand : goal.decreases-loop-strand
decreases-loop-strand l = left (tasks_in l.tasks) (length l.tasks) l.walk
