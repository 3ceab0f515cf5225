use Rattle.steal_scheduler.proofs.Common.{◌≡◌, length, EachPlace, IsNewTheft}
use Rattle.steal_scheduler.proofs.new.thefts.Given as goal

abbrev pub invariant-loop-stealer : goal.invariant-loop-stealer
invariant-loop-stealer l = (length l.thefts.items ≡ l.stealer-index) × EachPlace IsNewTheft l.thefts.items l.stealers
