use Rattle.steal_scheduler.proofs.Common.{◌≡◌, length, worker_deque, stealer_deque, EachPlace}
use Rattle.steal_scheduler.proofs.new.stealers.Given as goal

abbrev pub invariant-loop-owner : goal.invariant-loop-owner
invariant-loop-owner l = (length l.stealers.items ≡ l.owner-index) × EachPlace (λ s o. stealer_deque s ≡ worker_deque o.worker) l.stealers.items l.owners
