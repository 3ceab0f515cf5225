use Rattle.steal_scheduler.proofs.Common.{◌≡◌, All, length, IsNewOwner}
use Rattle.steal_scheduler.proofs.new.owners.Given as goal

abbrev pub invariant-loop : goal.invariant-loop
invariant-loop l = (length l.owners.items ≡ l.counter) × All IsNewOwner l.owners.items
